-- A schema in the words of 2020-12, one item or member after the other.
use Rattle.std.proofs.Common.{◌≡◌, ◌∷◌, [], ◌++◌, ℕ, suc, ◌<◌, ◌≤◌, ◌+◌, ◌-◌, List, Option, length}
use Rattle.std.proofs.Common.{Bool, true, false, ◌&&◌, cond, is_some, Some, None, String, Global, option_map, get_or, drop, chars}
use Rattle.std.proofs.Common.{encode_utf8_all, string_bytes, refl, sym, ap, ◌∙◌, arith}
use Rattle.std.proofs.lemmas.Str.{is_utf8-from_IsUtf8, IsUtf8-from_is_utf8}
use Rattle.std.specs.HashMap.{get_by_text}
use Rattle.std.specs.Option.{option_map_or}
use Rattle.std.specs.Str.{IsUtf8, is_utf8}
use Rattle.tinyjson.proofs.Callers.{view_String, find_get}
use Rattle.tinyjson.specs.Access.{JsonMap}
use Rattle.tinyjson.specs.Access.{is_array}
use Rattle.tinyjson.specs.Tree.{Tree, string, Items, no_items, item, Members, find, put}
use Rattle.tinyjson.specs.View.{view, text, items_view, members_view, members_listed}
use Rattle.tinyjson.specs.declared.value.JsonValue.{JsonValue}
use Rattle.tinyjson.specs.declared.value.JsonValue.TheVariants as made
use Rattle.tinyjson_schema_keywords.proofs.Callers.{Listed, name_chars, text_bytes, drop_suc, drop_item, drop_end}
use Rattle.tinyjson_schema_keywords.specs.Names.{name as keyword_name}
use Rattle.tinyjson_schema_keywords.specs.References.{percent_decoded}
use Rattle.tinyjson_schema_keywords.specs.declared.keyword.Keyword.{Keyword}
use Rattle.tinyjson_schema_drafts.specs.Pointers.{is_lost_word, is_lost_text, is_lost_by}
use Rattle.tinyjson_schema_drafts.specs.Rules.{rule_of}
use Rattle.tinyjson_schema_drafts.specs.Translated.{in_words, words_among, items_in_words, value_of, put_by, put_lists}
use Rattle.tinyjson_schema_drafts.specs.Translated.{lists_among, members_in_words}
use Rattle.tinyjson_schema_drafts.specs.declared.draft.Draft.{Draft}
use Rattle.tinyjson_schema_drafts.specs.declared.rule.Rule.{Rule}
use Rattle.tinyjson_schema_drafts.specs.declared.rule.Traits.{Traits}

-- ---- items, from the first one on

abbrev pub joined : Items → Items → Items
joined no_items us = us
joined (item t ts) us = item t (joined ts us)

pushed : (vs : List JsonValue) (v : JsonValue) (us : Items)
    → joined (items_view (vs ++ v ∷ [])) us ≡ joined (items_view vs) (item (view v) us)
pushed [] v us = refl
pushed (w ∷ vs) v us = ap (item (view w)) (pushed vs v us)

joined_none : (ts : Items) → joined ts no_items ≡ ts
joined_none no_items = refl
joined_none (item t ts) = ap (item t) (joined_none ts)

module _ (d : Draft) (r : Tree) where
  -- what was made and what is left give the whole
  abbrev pub AreMade : List JsonValue → List JsonValue → ℕ → Type 0
  AreMade all made i = joined (items_view made) (items_in_words d r (items_view (drop i all))) ≡ items_in_words d r (items_view all)

  pub item_made : (vs made : List JsonValue) (i : ℕ) (x y : JsonValue) → i < length vs → x ≡ get_or vs i x
      → view y ≡ in_words d r (view x) → AreMade vs made i → AreMade vs (made ++ y ∷ []) (i + 1)
  item_made vs made i x y l e h g =
      let rest = items_in_words d r (items_view (drop (i + 1) vs)) in
      pushed made y rest
      ∙ (ap (λ t. joined (items_view made) (item t rest)) h
      ∙ (ap (λ xs. joined (items_view made) (items_in_words d r (items_view xs))) (sym (drop_item vs i x l e)) ∙ g))

  pub items_made : (vs made : List JsonValue) (i : ℕ) → length vs ≤ i → AreMade vs made i
      → items_view made ≡ items_in_words d r (items_view vs)
  items_made vs made i l g = sym (joined_none (items_view made))
      ∙ (ap (λ xs. joined (items_view made) (items_in_words d r (items_view xs))) (sym (drop_end vs i l)) ∙ g)

-- ---- members, from the last one on

module _ (ps : List Listed) (n : ℕ) (x : Listed) (more : 0 < n) (among : n ≤ length ps) (is : x ≡ get_or ps (n - 1) x) where
  one_back : drop (n - 1) ps ≡ x ∷ drop n ps
  one_back =
      let here : n - 1 < length ps = omega (arith, more, among) in
      let next : suc (n - 1) ≡ n = omega (arith, more) in
      drop_suc ps (n - 1) x here is ∙ ap (λ m. x ∷ drop m ps) next

  module _ (b : Bool) (now : Members) where
    pub list_kept : b ≡ is_array (view x.1.now) → b ≡ false → now ≡ lists_among (members_listed (drop n ps))
        → now ≡ lists_among (members_listed (drop (n - 1) ps))
    list_kept t f left =
        let rest = lists_among (members_listed (drop n ps)) in
        left ∙ (ap (λ c. cond c (put (text x.0.now) (view x.1.now) rest) rest) (sym f ∙ t)
        ∙ ap (λ xs. lists_among (members_listed xs)) (sym one_back))

    pub list_put : (key : List ℕ) (w : Tree) (next : Members) → key ≡ string_bytes x.0.now → w ≡ view x.1.now
        → b ≡ is_array (view x.1.now) → b ≡ true → now ≡ lists_among (members_listed (drop n ps)) → next ≡ put (chars key) w now
        → next ≡ lists_among (members_listed (drop (n - 1) ps))
    list_put key w next same copy t f left h =
        let rest = lists_among (members_listed (drop n ps)) in
        h ∙ ((λ i. put (chars (same i)) (copy i) (left i))
        ∙ (ap (λ c. cond c (put (text x.0.now) (view x.1.now) rest) rest) (sym f ∙ t)
        ∙ ap (λ xs. lists_among (members_listed xs)) (sym one_back)))

    module _ (has : Bool) (d : Draft) (r : Tree) (t : b ≡ (has && is_array (view x.1.now)))
        (left : now ≡ members_in_words has d r (members_listed (drop n ps))) where
      pub member_kept : b ≡ true → now ≡ members_in_words has d r (members_listed (drop (n - 1) ps))
      member_kept f =
          let rest = members_in_words has d r (members_listed (drop n ps)) in
          left ∙ (ap (λ c. cond c rest (put (text x.0.now) (in_words d r (view x.1.now)) rest)) (sym f ∙ t)
          ∙ ap (λ xs. members_in_words has d r (members_listed xs)) (sym one_back))

      pub member_put : (key : List ℕ) (w : Tree) (next : Members) → key ≡ string_bytes x.0.now → w ≡ in_words d r (view x.1.now)
          → b ≡ false → next ≡ put (chars key) w now → next ≡ members_in_words has d r (members_listed (drop (n - 1) ps))
      member_put key w next same made f h =
          let rest = members_in_words has d r (members_listed (drop n ps)) in
          h ∙ ((λ i. put (chars (same i)) (made i) (left i))
          ∙ (ap (λ c. cond c rest (put (text x.0.now) (in_words d r (view x.1.now)) rest)) (sym f ∙ t)
          ∙ ap (λ xs. members_in_words has d r (members_listed xs)) (sym one_back)))

module _ (ps : List Listed) (n : ℕ) (x : Listed) (key : List ℕ) (more : 0 < n) (among : n ≤ length ps) (is : x ≡ get_or ps (n - 1) x)
    (same : key ≡ string_bytes x.0.now)
  where
    front : drop (n - 1) ps ≡ x ∷ drop n ps
    front = one_back ps n x more among is

    name : chars key ≡ text x.0.now
    name = ap chars same

    pub word_back : (d : Draft) (r : Tree) (t : Traits) (now mid next : Members) (o : Option Tree) (u : Rule)
        → u ≡ rule_of t key (view x.1.now) → now ≡ words_among t d r (members_listed (drop n ps))
        → o ≡ value_of u d r (view x.1.now) → mid ≡ put_lists u (view x.1.now) now → next ≡ put_by u (chars key) o mid
        → next ≡ words_among t d r (members_listed (drop (n - 1) ps))
    word_back d r t now mid next o u e g h m f =
        let w = view x.1.now in
        let rest = words_among t d r (members_listed (drop n ps)) in
        let by : Rule → Members = λ v. put_by v (text x.0.now) (value_of v d r w) (put_lists v w rest) in
        f ∙ (ap (λ k. put_by u k o mid) name
        ∙ (ap (λ v. put_by u (text x.0.now) v mid) h
        ∙ (ap (put_by u (text x.0.now) (value_of u d r w)) m
        ∙ (ap (λ l. put_by u (text x.0.now) (value_of u d r w) (put_lists u w l)) g
        ∙ (ap by (e ∙ ap (λ bs. rule_of t bs w) (text_bytes x.0.now key same))
        ∙ ap (λ xs. words_among t d r (members_listed xs)) (sym front))))))

-- ---- texts

module _ (v : JsonValue) (s : String Global) (bs : List ℕ) (is : v ≡ made.String s) (same : bs ≡ string_bytes s) where
  -- what is said of the bytes of a text is said of its value
  pub said : {B : Type 0} (F : List ℕ → B) (G : Tree → B) → F (encode_utf8_all (text s)) ≡ G (string (text s)) → F bs ≡ G (view v)
  said F G h = ap F (text_bytes s bs same) ∙ (h ∙ ap G (sym (ap view is ∙ view_String s)))

  pub said_of : {B : Type 0} (F : List ℕ → Tree → B) (G : Tree → B) → F (encode_utf8_all (text s)) (string (text s)) ≡ G (string (text s))
      → F bs (view v) ≡ G (view v)
  said_of F G h = ap (F bs) (ap view is ∙ view_String s)
      ∙ (ap (λ xs. F xs (string (text s))) (text_bytes s bs same) ∙ (h ∙ ap G (sym (ap view is ∙ view_String s))))

-- ---- the keys of a map

some_view : (o : Option JsonValue) → is_some (option_map view o) ≡ is_some o
some_view None = refl
some_view (Some v) = refl

pub had_name : (m : JsonMap) (k : Keyword) (bs : List ℕ) → bs ≡ keyword_name k → IsUtf8 bs
    → is_some (find (keyword_name k) (members_view m.entries)) ≡ is_some (get_by_text m bs)
had_name m k bs e u = ap (λ x. is_some (find x (members_view m.entries))) (sym (name_chars k bs e))
    ∙ (ap is_some (find_get m bs u) ∙ some_view (get_by_text m bs))

-- ---- pointers

module _ (r : Tree) (u f ds : List ℕ) (read : Some ds ≡ percent_decoded f) where
  pub text_lost : IsUtf8 ds → is_lost_word r u ds ≡ is_lost_by r u f
  text_lost h = ap (λ b. cond b (is_lost_word r u ds) false) (sym (is_utf8-from_IsUtf8 ds h))
      ∙ ap (λ o. option_map_or (is_lost_text r u) o false) read

  pub no_text_lost : ¬ IsUtf8 ds → false ≡ is_lost_by r u f
  no_text_lost h = by (is_utf8 ds) refl ∙ ap (λ o. option_map_or (is_lost_text r u) o false) read
    where
      by : (b : Bool) → is_utf8 ds ≡ b → false ≡ cond b (is_lost_word r u ds) false
      by true e = absurd (h (IsUtf8-from_is_utf8 ds e))
      by false e = refl
