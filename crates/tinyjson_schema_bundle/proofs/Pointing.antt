-- A document with each reference as a pointer, one keyword, item or member after the other.
use Rattle.std.proofs.Common.{◌≡◌, ◌∷◌, [], ◌++◌, ℕ, suc, ◌<◌, ◌≤◌, ◌+◌, ◌-◌, List, Option, length}
use Rattle.std.proofs.Common.{Bool, true, false, cond, get_or, drop, chars, encode_utf8_all, string_bytes, refl, sym, ap, ◌∙◌, arith}
use Rattle.tinyjson.specs.Tree.{Tree, Items, no_items, item, Members, put}
use Rattle.tinyjson.specs.View.{view, text, items_view, members_listed}
use Rattle.tinyjson.specs.declared.value.JsonValue.{JsonValue}
use Rattle.tinyjson_schema_keywords.proofs.Callers.{Listed, text_bytes, drop_suc, drop_item, drop_end}
use Rattle.tinyjson_schema_bundle.specs.Bundles.{Places, Leads, at_key, at_index, kept_of, put_some, pointed, pointed_among, pointed_items}
use Rattle.tinyjson_schema_bundle.specs.Bundles.{pointed_members, Marked, base_in, marks_of, is_bundle, place_of}
use Rattle.tinyjson_schema_bundle.specs.Scopes.{Reached, letters, some_contested, with_copies, bundled}

-- ---- items, from the first one on

abbrev pub joined : Items → Items → Items
joined no_items us = us
joined (item t ts) us = item t (joined ts us)

pushed : (vs : List JsonValue) (v : JsonValue) (us : Items)
    → joined (items_view (vs ++ v ∷ [])) us ≡ joined (items_view vs) (item (view v) us)
pushed [] v us = refl
pushed (w ∷ vs) v us = ap (item (view w)) (pushed vs v us)

joined_none : (ts : Items) → joined ts no_items ≡ ts
joined_none no_items = refl
joined_none (item t ts) = ap (item t) (joined_none ts)

module _ (to : Leads) (b p : List ℕ) where
  -- what was made and what is left give the whole
  abbrev pub AreMade : List JsonValue → List JsonValue → ℕ → Type 0
  AreMade all made i = joined (items_view made) (pointed_items to b p i (items_view (drop i all))) ≡ pointed_items to b p 0 (items_view all)

  pub item_made : (vs made : List JsonValue) (i : ℕ) (x y : JsonValue) → i < length vs → x ≡ get_or vs i x
      → view y ≡ pointed to b (at_index p i) (view x) → AreMade vs made i → AreMade vs (made ++ y ∷ []) (i + 1)
  item_made vs made i x y l e h g =
      let rest = λ (k : ℕ). pointed_items to b p k (items_view (drop (i + 1) vs)) in
      let next : suc i ≡ i + 1 = omega arith in
      pushed made y (rest (i + 1))
      ∙ (ap (λ t. joined (items_view made) (item t (rest (i + 1)))) h
      ∙ (ap (λ k. joined (items_view made) (item (pointed to b (at_index p i) (view x)) (rest k))) (sym next)
      ∙ (ap (λ xs. joined (items_view made) (pointed_items to b p i (items_view xs))) (sym (drop_item vs i x l e)) ∙ g)))

  pub items_made : (vs made : List JsonValue) (i : ℕ) → length vs ≤ i → AreMade vs made i
      → items_view made ≡ pointed_items to b p 0 (items_view vs)
  items_made vs made i l g = sym (joined_none (items_view made))
      ∙ (ap (λ xs. joined (items_view made) (pointed_items to b p i (items_view xs))) (sym (drop_end vs i l)) ∙ g)

  -- ---- members, from the last one on

  module _ (ps : List Listed) (n : ℕ) (x : Listed) (key : List ℕ) (more : 0 < n) (among : n ≤ length ps) (is : x ≡ get_or ps (n - 1) x)
      (same : key ≡ string_bytes x.0.now)
    where
      front : drop (n - 1) ps ≡ x ∷ drop n ps
      front =
          let here : n - 1 < length ps = omega (arith, more, among) in
          let next : suc (n - 1) ≡ n = omega (arith, more) in
          drop_suc ps (n - 1) x here is ∙ ap (λ m. x ∷ drop m ps) next

      name : chars key ≡ text x.0.now
      name = ap chars same

      pub keyword_back : (now next : Members) (o : Option Tree) → now ≡ pointed_among to b p (members_listed (drop n ps))
          → o ≡ kept_of to key b p (at_key p (chars key)) (view x.1.now) → next ≡ put_some (chars key) o now
          → next ≡ pointed_among to b p (members_listed (drop (n - 1) ps))
      keyword_back now next o g h f =
          f ∙ (ap (λ k. put_some k o now) name
          ∙ (ap (λ w. put_some (text x.0.now) w now) (h ∙ (ap (λ k. kept_of to key b p (at_key p k) (view x.1.now)) name
          ∙ ap (λ bs. kept_of to bs b p (at_key p (text x.0.now)) (view x.1.now)) (text_bytes x.0.now key same)))
          ∙ (ap (put_some (text x.0.now) (kept_of to (encode_utf8_all (text x.0.now)) b p (at_key p (text x.0.now)) (view x.1.now))) g
          ∙ ap (λ xs. pointed_among to b p (members_listed xs)) (sym front))))

      pub member_back : (now next : Members) (t : Tree) → now ≡ pointed_members to b p (members_listed (drop n ps))
          → t ≡ pointed to b (at_key p (chars key)) (view x.1.now) → next ≡ put (chars key) t now
          → next ≡ pointed_members to b p (members_listed (drop (n - 1) ps))
      member_back now next t g h f =
          f ∙ (ap (λ k. put k t now) name
          ∙ (ap (λ w. put (text x.0.now) w now) (h ∙ ap (λ k. pointed to b (at_key p k) (view x.1.now)) name)
          ∙ (ap (put (text x.0.now) (pointed to b (at_key p (text x.0.now)) (view x.1.now))) g
          ∙ ap (λ xs. pointed_members to b p (members_listed xs)) (sym front))))

-- ---- the whole

pub bundle_made : (t : Tree) (ms : List Marked) (r z : List ℕ) (some : Bool) (at : Places) (copies : List Reached) → ms ≡ marks_of t
    → is_bundle ms ≡ true → r ≡ base_in [] t → z ≡ letters t → some ≡ some_contested ms r ms → ((u : List ℕ) → at u ≡ place_of ms u)
    → with_copies at ms r z some copies t copies ≡ bundled copies t
bundle_made t ms r z some at copies e is g f k h =
    let same : at ≡ place_of ms = λ i. λ u. h u i in
    ap (λ x. with_copies x ms r z some copies t copies) same
    ∙ (ap (λ x. with_copies (place_of ms) ms r z x copies t copies) k
    ∙ (ap (λ x. with_copies (place_of ms) ms r x (some_contested ms r ms) copies t copies) f
    ∙ (ap (λ x. with_copies (place_of ms) ms x (letters t) (some_contested ms x ms) copies t copies) g
    ∙ (ap (λ b. cond b
    (with_copies (place_of ms) ms (base_in [] t) (letters t) (some_contested ms (base_in [] t) ms) copies t copies) t) (sym is)
    ∙ ap (λ xs. cond (is_bundle xs) (with_copies (place_of xs) xs (base_in [] t) (letters t) (some_contested xs (base_in [] t) xs)
    copies t copies) t) e))))

pub no_bundle : (t : Tree) (ms : List Marked) → ms ≡ marks_of t → is_bundle ms ≡ false → t ≡ bundled [] t
no_bundle t ms e is =
    let whole : List Marked → Tree = λ xs.
    with_copies (place_of xs) xs (base_in [] t) (letters t) (some_contested xs (base_in [] t) xs) [] t [] in
    ap (λ b. cond b (whole ms) t) (sym is) ∙ ap (λ xs. cond (is_bundle xs) (whole xs) t) e
