-- Marks that are gathered, one after the other.
use Rattle.std.proofs.Common.{◌≡◌, ◌∷◌, [], ◌++◌, ℕ, suc, ◌<◌, ◌≤◌, ◌+◌, List, Some, String, Global, length, get_or, drop}
use Rattle.std.proofs.Common.{true, false, cond, encode_utf8_all, string_bytes, refl, sym, ap, ◌∙◌, subst, append_assoc, append-nil}
use Rattle.std.proofs.Common.{Result, Ok, Err, Bor}
use Rattle.std.proofs.lemmas.List.{map-append}
use Rattle.std.specs.Prelude.{OnOk}
use Rattle.tinyjson.proofs.Callers.{view_String, view_Object, no_object}
use Rattle.tinyjson.specs.Access.{JsonMap}
use Rattle.tinyjson.specs.Tree.{Tree, array, object, Items, no_items, item, Members, no_members, member}
use Rattle.tinyjson.specs.View.{view, text, members_view}
use Rattle.tinyjson.specs.declared.value.JsonValue.{JsonValue}
use Rattle.tinyjson.specs.declared.value.JsonValue.TheVariants as is
use Rattle.text_uri.specs.Resolving.{resolved, without_fragment}
use Rattle.tinyjson_schema_keywords.specs.Forms.{form_at}
use Rattle.tinyjson_schema_keywords.specs.Subschemas.{by_key, keyword_parts, item_parts, entry_parts, parts_of}
use Rattle.tinyjson_schema_keywords.specs.Subschemas.{way_of, part_seen, all_parts}
use Rattle.tinyjson_schema_keywords.specs.declared.keyword.Form.{Form}
use Rattle.tinyjson_schema_keywords.specs.declared.keyword.Form.TheVariants as form
use Rattle.tinyjson_schema_keywords.specs.declared.subschemas.Part.{Part}
use Rattle.tinyjson_schema_keywords.specs.declared.subschemas.Token.TheVariants as token
use Rattle.tinyjson_schema_keywords.proofs.Callers.{text_bytes, drop_item, drop_end}
use Rattle.tinyjson_schema_bundle.specs.Bundles.{Marked, base_by, base_in, name_kind, with_name, reference_kind, is_resource}
use Rattle.tinyjson_schema_bundle.specs.Bundles.{resource_marks, name_marks}
use Rattle.tinyjson_schema_bundle.specs.Bundles.{reference_marks, at_key, at_index, at_way, marks_by, marks_in, marks_in_list}
use Rattle.tinyjson_schema_bundle.specs.Bundles.{marks_in_map, marks_among, marks_of_items, marks_of_members, marks_within}
use Rattle.tinyjson_schema_bundle.specs.Bundles.{own_marks, marks_of_parts, marked, all_marked, Gathers}
use Rattle.tinyjson_schema_bundle.specs.declared.mark.Kind.{Kind}
use Rattle.tinyjson_schema_bundle.specs.declared.mark.Kind.TheVariants as kind
use Rattle.tinyjson_schema_bundle.specs.declared.mark.Mark.{Mark}

-- ---- the base URI that an `$id` says

pub base_said : (v : JsonValue) (s : String Global) (b bs : List ℕ) → v ≡ is.String s → bs ≡ string_bytes s
    → without_fragment (resolved b bs) ≡ base_by b (Some (view v))
base_said v s b bs e h = ap (λ xs. without_fragment (resolved b xs)) (text_bytes s bs h)
    ∙ ap (λ t. base_by b (Some t)) (sym (ap view e ∙ view_String s))

-- ---- one that was put to the others

pub one_marked : (m : Mark) (old : List Mark) → Gathers (marked m ∷ []) old (old ++ m ∷ [])
one_marked m old = map-append marked old (m ∷ [])

pub none_marked : (old : List Mark) → Gathers [] old old
none_marked old = sym (append-nil (all_marked old))

pub resource_marked : (b p : List ℕ) (s : Tree) (m : Mark) (old : List Mark) → is_resource p s ≡ true → marked m ≡ (kind.Resource, b, p)
    → Gathers (resource_marks b p s) old (old ++ m ∷ [])
resource_marked b p s m old r e =
    subst (λ ms. Gathers ms old (old ++ m ∷ [])) (ap (λ x. x ∷ []) e ∙ ap (λ t. cond t ((kind.Resource, b, p) ∷ []) []) (sym r))
    (one_marked m old)

pub no_resource : (b p : List ℕ) (s : Tree) (old : List Mark) → is_resource p s ≡ false → Gathers (resource_marks b p s) old old
no_resource b p s old r = subst (λ ms. Gathers ms old old) (ap (λ t. cond t ((kind.Resource, b, p) ∷ []) []) (sym r)) (none_marked old)

pub name_marked : (v : JsonValue) (s : String Global) (k : Kind) (b p bs : List ℕ) (m : Mark) (old : List Mark) → v ≡ is.String s
    → bs ≡ string_bytes s → marked m ≡ (k, with_name b bs, p) → Gathers (name_marks k b p (view v)) old (old ++ m ∷ [])
name_marked v s k b p bs m old e h f =
    subst (λ ms. Gathers ms old (old ++ m ∷ []))
    (ap (λ x. x ∷ []) (f ∙ ap (λ xs. (k, with_name b xs, p)) (text_bytes s bs h))
    ∙ ap (name_marks k b p) (sym (ap view e ∙ view_String s))) (one_marked m old)

module _ (v : JsonValue) (s : String Global) (p bs : List ℕ) (old : List Mark) (e : v ≡ is.String s) (h : bs ≡ string_bytes s) where
  pub reference_marked : (m : Mark) → marked m ≡ (reference_kind bs, bs, p) → Gathers (reference_marks p (view v)) old (old ++ m ∷ [])
  reference_marked m g = subst (λ ms. Gathers ms old (old ++ m ∷ []))
      (ap (λ x. x ∷ []) (g ∙ ap (λ xs. (reference_kind xs, xs, p)) (text_bytes s bs h))
      ∙ ap (reference_marks p) (sym (ap view e ∙ view_String s))) (one_marked m old)

-- ---- the loops

-- Of all these the rest is left.
abbrev pub IsLeft : List Marked → List Marked → List Mark → List Mark → Type 0
IsLeft all rest old now = all_marked now ++ rest ≡ all_marked old ++ all

turn : (all ks rest : List Marked) (s a b : List Mark) → IsLeft all (ks ++ rest) s a → Gathers ks a b → IsLeft all rest s b
turn all ks rest s a b g h = ap (λ l. l ++ rest) h ∙ (append_assoc (all_marked a) ks rest ∙ g)

ended : (all rest : List Marked) (s a : List Mark) → IsLeft all rest s a → rest ≡ [] → Gathers all s a
ended all rest s a g e = sym (append-nil (all_marked a)) ∙ (ap (λ l. all_marked a ++ l) (sym e) ∙ g)

-- two gathered, one after the other
pub both_marked : (ks ls : List Marked) (a b c : List Mark) → Gathers ks a b → Gathers ls b c → Gathers (ks ++ ls) a c
both_marked ks ls a b c g h = h ∙ (ap (λ l. l ++ ls) g ∙ append_assoc (all_marked a) ks ls)

module _ (b p : List ℕ) (ps : List Part) (i : ℕ) (s a : List Mark)
    (g : IsLeft (marks_of_parts b p (all_parts ps)) (marks_of_parts b p (all_parts (drop i ps))) s a) where
  pub part_marked : (x : Part) (c d : List Mark) → i < length ps → x ≡ get_or ps i x → Gathers (own_marks b p (part_seen x)) a c
      → Gathers (marks_within x.form b (at_way p (way_of x.token)) (view x.value.now)) c d
      → IsLeft (marks_of_parts b p (all_parts ps)) (marks_of_parts b p (all_parts (drop (i + 1) ps))) s d
  part_marked x c d l e own inner =
      let all = marks_of_parts b p (all_parts ps) in
      let rest = marks_of_parts b p (all_parts (drop (i + 1) ps)) in
      let within = marks_within x.form b (at_way p (way_of x.token)) (view x.value.now) in
      turn all within rest s c d
      (turn all (own_marks b p (part_seen x)) (within ++ rest) s a c
      (subst (λ xs. IsLeft all (marks_of_parts b p (all_parts xs)) s a) (drop_item ps i x l e) g) own) inner

  pub parts_marked : (f : Form) (w : Tree) (qs : List Part) → length ps ≤ i → ps ≡ qs → all_parts qs ≡ parts_of f w
      → Gathers (marks_of_parts b p (parts_of f w)) s a
  parts_marked f w qs l same all = subst (λ ks. Gathers ks s a)
      (ap (λ xs. marks_of_parts b p (all_parts xs)) same ∙ ap (marks_of_parts b p) all)
      (ended _ _ s a g (ap (λ xs. marks_of_parts b p (all_parts xs)) (drop_end ps i l)))

-- the second, if there is no error
pub both_when : {A E : Type 0} (r : Result A E) (ks ls : List Marked) (a b c : List Mark) → Gathers ks a b → OnOk r (Gathers ls b c)
    → OnOk r (Gathers (ks ++ ls) a c)
both_when (Ok x) ks ls a b c g h = both_marked ks ls a b c g h
both_when (Err e) ks ls a b c g h = tt

-- the name that a keyword gives its schema
pub own_name : (b p : List ℕ) (x : Part) (n : Bor (String Global)) (bs : List ℕ) → x.token ≡ token.Key n → x.form ≡ form.Anchor
    → bs ≡ string_bytes n.now → name_marks (name_kind bs) b p (view x.value.now) ≡ own_marks b p (part_seen x)
own_name b p x n bs h g e =
    ap (λ k. name_marks (name_kind k) b p (view x.value.now)) (text_bytes n.now bs e)
    ∙ sym (ap (λ y. own_marks b p (way_of y, x.keyword, x.form, view x.value.now)) h
    ∙ ap (λ f. own_marks b p (by_key (text n.now), x.keyword, f, view x.value.now)) g)

-- ---- a value and its parts

own_and_inner : (f : Form) (names outside one list entries : List Marked)
    → marks_by f names outside one list entries ≡ marks_by f names outside [] [] [] ++ marks_by f [] [] one list entries
own_and_inner form.Anchor names outside one list entries = sym (append-nil names)
own_and_inner form.Reference names outside one list entries = sym (append-nil outside)
own_and_inner _ names outside one list entries = refl

among_keywords : (b p : List ℕ) (ms : Members) → marks_among b p ms ≡ marks_of_parts b p (keyword_parts ms)
among_keywords b p no_members = refl
among_keywords b p (member k w ms) =
    let f = form_at (encode_utf8_all k) in
    let names = name_marks (name_kind (encode_utf8_all k)) b p w in
    let outside = reference_marks p w in
    let own = marks_by f names outside [] [] [] in
    let within = marks_within f b (at_key p k) w in
    ap (λ l. l ++ marks_among b p ms) (own_and_inner f names outside (marks_in b (at_key p k) w) (marks_in_list b (at_key p k) w)
    (marks_in_map b (at_key p k) w)) ∙ (append_assoc own within (marks_among b p ms)
    ∙ ap (λ l. own ++ (within ++ l)) (among_keywords b p ms))

among_items : (b p : List ℕ) (i : ℕ) (ts : Items) → marks_of_items b p i ts ≡ marks_of_parts b p (item_parts i ts)
among_items b p i no_items = refl
among_items b p i (item t ts) = ap (λ l. marks_in b (at_index p i) t ++ l) (among_items b p (suc i) ts)

among_entries : (b p : List ℕ) (ms : Members) → marks_of_members b p ms ≡ marks_of_parts b p (entry_parts ms)
among_entries b p no_members = refl
among_entries b p (member k w ms) = ap (λ l. marks_in b (at_key p k) w ++ l) (among_entries b p ms)

pub within_parts : (b p : List ℕ) (f : Form) (w : Tree) → (f ≡ form.Schema → ⊥) → marks_of_parts b p (parts_of f w) ≡ marks_within f b p w
within_parts b p form.Schema w n = absurd (n refl)
within_parts b p form.Schemas (array ts) n = sym (among_items b p 0 ts)
within_parts b p form.Schemas _ n = refl
within_parts b p form.SchemaMap (object ms) n = sym (among_entries b p ms)
within_parts b p form.SchemaMap _ n = refl
within_parts b p form.PatternMap (object ms) n = sym (among_entries b p ms)
within_parts b p form.PatternMap _ n = refl
within_parts b p _ w n = refl

pub schema_marked : (b p : List ℕ) (v : JsonValue) (m : JsonMap) → v ≡ is.Object m
    → resource_marks (base_in b (view v)) p (view v) ++ marks_of_parts (base_in b (view v)) p (parts_of form.Schema (view v))
    ≡ marks_in b p (view v)
schema_marked b p v m e = subst (λ t. resource_marks (base_in b t) p t ++ marks_of_parts (base_in b t) p (parts_of form.Schema t)
    ≡ marks_in b p t) (sym (ap view e ∙ view_Object m)) (by (members_view m.entries))
  where
    by : (ms : Members) → resource_marks (base_in b (object ms)) p (object ms)
        ++ marks_of_parts (base_in b (object ms)) p (keyword_parts ms) ≡ marks_in b p (object ms)
    by ms = ap (λ l. resource_marks (base_in b (object ms)) p (object ms) ++ l) (sym (among_keywords (base_in b (object ms)) p ms))

pub no_schema_marked : (b p : List ℕ) (v : JsonValue) → ((m : JsonMap) → v ≡ is.Object m → ⊥) → [] ≡ marks_in b p (view v)
no_schema_marked b p v other = by (view v) (no_object v other)
  where
    by : (t : Tree) → ((ms : Members) → t ≡ object ms → ⊥) → [] ≡ marks_in b p t
    by (object ms) n = absurd (n ms refl)
    by _ n = refl
