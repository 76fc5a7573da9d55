-- A place of a document has one name by `$dynamicAnchor` at most.
use Rattle.std.proofs.Common.{◌≡◌, inl, inr, ℕ, suc, ◌+◌, ◌<◌, ◌≤◌, ◌^◌, Bool, true, false, ◌&&◌, List, [], ◌∷◌, ◌++◌}
use Rattle.std.proofs.Common.{Some, None, cond, refl, sym, ap, ◌∙◌, true≢false, subst, bytes_eq, arith, append-nil, encode_utf8_all}
use Rattle.std.proofs.lemmas.Bool.{and_parts, and_from, and_right, false_from_ne_true}
use Rattle.std.proofs.lemmas.Slice.Eq.{bytes_eq-Decides}
use Rattle.std.proofs.lemmas.Str.{encodes_same}
use Rattle.std.specs.Prelude.{⊤}
use Rattle.tinyjson.proofs.Callers.{find_below}
use Rattle.tinyjson.specs.Index.{item_count}
use Rattle.tinyjson.specs.Tree.{Tree, string, array, object, Items, no_items, item, Members, no_members, member, find}
use Rattle.tinyjson_number.specs.Numeral.{power_width}
use Rattle.tinyjson_grammar.specs.Soundness.{IsTree, AreItemsAt, AreMembersAt, IsSorted}
use Rattle.tinyjson_schema_keywords.specs.Forms.{form_at}
use Rattle.tinyjson_schema_keywords.specs.Names.{name}
use Rattle.tinyjson_schema_keywords.specs.declared.keyword.Form.{Form}
use Rattle.tinyjson_schema_keywords.specs.declared.keyword.Form.TheVariants as form
use Rattle.tinyjson_schema_keywords.specs.declared.keyword.Keyword.TheVariants as kw
use Rattle.tinyjson_schema_bundle.specs.Bundles.{Marked, at_key, at_index, base_in, is_resource, is_dynamic_name, resource_marks, name_kind}
use Rattle.tinyjson_schema_bundle.specs.Bundles.{name_marks, with_name, is_fragment, reference_marks, marks_by, marks_in, marks_among}
use Rattle.tinyjson_schema_bundle.specs.Bundles.{marks_in_list, marks_in_map, marks_of_items, marks_of_members, marks_of}
use Rattle.tinyjson_schema_bundle.specs.Scopes.{is_within}
use Rattle.tinyjson_schema_bundle.specs.declared.mark.Kind.TheVariants as kind
use Rattle.tinyjson_schema_laws.proofs.Containing.{IsShort, AreShort, HaveShort, within_itself, not_above, not_below}
use Rattle.tinyjson_schema_laws.proofs.Containing.{not_item, other_key, other_index}
use Rattle.tinyjson_schema_laws.proofs.Standing.{IsAmong, OneName}

abbrev anchor : List ℕ
anchor = name kw.DynamicAnchor

module _ (q : List ℕ) where
  -- the names by `$dynamicAnchor` at q
  abbrev names_at : List Marked → List Marked
  names_at [] = []
  names_at (m ∷ ms) = cond (is_dynamic_name m.0 && bytes_eq m.2 q) (m ∷ names_at ms) (names_at ms)

  names_both : (ms ns : List Marked) → names_at (ms ++ ns) ≡ names_at ms ++ names_at ns
  names_both [] ns = refl
  names_both (m ∷ ms) ns = by (names_both ms ns) (is_dynamic_name m.0 && bytes_eq m.2 q)
    where
      by : names_at (ms ++ ns) ≡ names_at ms ++ names_at ns → (x : Bool)
          → cond x (m ∷ names_at (ms ++ ns)) (names_at (ms ++ ns)) ≡ cond x (m ∷ names_at ms) (names_at ms) ++ names_at ns
      by later true = ap (λ l. m ∷ l) later
      by later false = later

  -- ---- marks without such a name

  abbrev IsNameless : List Marked → Type 0
  IsNameless ms = names_at ms ≡ []

  nameless_both : (ms ns : List Marked) → IsNameless ms → IsNameless ns → IsNameless (ms ++ ns)
  nameless_both ms ns g h = names_both ms ns ∙ (λ i. g i ++ h i)

  nameless_resources : (b p : List ℕ) (s : Tree) → IsNameless (resource_marks b p s)
  nameless_resources b p s = by (is_resource p s)
    where
      by : (x : Bool) → IsNameless (cond x ((kind.Resource, b, p) ∷ []) [])
      by true = refl
      by false = refl

  nameless_references : (p : List ℕ) (w : Tree) → IsNameless (reference_marks p w)
  nameless_references p (string cs) = by (is_fragment (encode_utf8_all cs))
    where
      by : (x : Bool) → IsNameless ((cond x kind.Inside kind.Outside, encode_utf8_all cs, p) ∷ [])
      by true = refl
      by false = refl
  nameless_references p _ = refl

  nameless_names : (key b p : List ℕ) (w : Tree) → (bytes_eq key anchor && bytes_eq p q) ≡ false
      → IsNameless (name_marks (name_kind key) b p w)
  nameless_names key b p (string cs) h = by (bytes_eq key anchor) h
    where
      by : (x : Bool) → (x && bytes_eq p q) ≡ false
          → IsNameless ((cond x kind.DynamicName kind.Name, with_name b (encode_utf8_all cs), p) ∷ [])
      by true e = ap (λ y. cond y ((kind.DynamicName, with_name b (encode_utf8_all cs), p) ∷ []) []) e
      by false e = refl
  nameless_names key b p _ h = refl

  nameless_form : (f : Form) (a b c d e : List Marked) → IsNameless a → IsNameless b → IsNameless c → IsNameless d → IsNameless e
      → IsNameless (marks_by f a b c d e)
  nameless_form form.Anchor a b c d e f g h i j = f
  nameless_form form.Reference a b c d e f g h i j = g
  nameless_form form.Schema a b c d e f g h i j = h
  nameless_form form.Schemas a b c d e f g h i j = i
  nameless_form form.SchemaMap a b c d e f g h i j = j
  nameless_form form.PatternMap a b c d e f g h i j = j
  nameless_form _ a b c d e f g h i j = refl

  abbrev marks_at : List ℕ → List ℕ → List ℕ → Tree → List Marked
  marks_at b p k w = marks_by (form_at (encode_utf8_all k)) (name_marks (name_kind (encode_utf8_all k)) b p w) (reference_marks p w)
      (marks_in b (at_key p k) w) (marks_in_list b (at_key p k) w) (marks_in_map b (at_key p k) w)

  -- no member of the schema at p names it at q, or contains q
  abbrev IsApart : List ℕ → Members → Type 0
  IsApart p no_members = ⊤
  IsApart p (member l u ms) = (is_within (at_key p l) q ≡ false) × ((bytes_eq (encode_utf8_all l) anchor && bytes_eq p q) ≡ false)
      × IsApart p ms

  other_place : (p : List ℕ) → is_within p q ≡ false → bytes_eq p q ≡ false
  other_place p h = false_from_ne_true (bytes_eq p q)
      (λ e. true≢false (sym (ap (is_within p) (sym ((bytes_eq-Decides p q).0 e)) ∙ within_itself p) ∙ h))

  all_apart : (p : List ℕ) (ms : Members) → is_within p q ≡ false → IsApart p ms
  all_apart p no_members h = tt
  all_apart p (member l u ms) h =
      (not_below p q l h, and_right (bytes_eq (encode_utf8_all l) anchor) (bytes_eq p q) (other_place p h), all_apart p ms h)

  mutual
    nameless_schema : (b p : List ℕ) (w : Tree) → is_within p q ≡ false → IsNameless (marks_in b p w)
    nameless_schema b p (object ms) h = nameless_both (resource_marks (base_in b (object ms)) p (object ms))
        (marks_among (base_in b (object ms)) p ms) (nameless_resources (base_in b (object ms)) p (object ms))
        (nameless_among (base_in b (object ms)) p ms (all_apart p ms h))
    nameless_schema b p _ h = refl

    nameless_among : (b p : List ℕ) (ms : Members) → IsApart p ms → IsNameless (marks_among b p ms)
    nameless_among b p no_members h = refl
    nameless_among b p (member k w ms) h = nameless_both (marks_at b p k w) (marks_among b p ms)
        (nameless_form (form_at (encode_utf8_all k)) (name_marks (name_kind (encode_utf8_all k)) b p w) (reference_marks p w)
        (marks_in b (at_key p k) w) (marks_in_list b (at_key p k) w) (marks_in_map b (at_key p k) w)
        (nameless_names (encode_utf8_all k) b p w h.1) (nameless_references p w) (nameless_schema b (at_key p k) w h.0)
        (nameless_list b (at_key p k) w h.0) (nameless_map b (at_key p k) w h.0))
        (nameless_among b p ms h.2)

    nameless_list : (b p : List ℕ) (w : Tree) → is_within p q ≡ false → IsNameless (marks_in_list b p w)
    nameless_list b p (array ts) h = nameless_items b p 0 ts (λ i. not_item p q i h)
    nameless_list b p _ h = refl

    nameless_map : (b p : List ℕ) (w : Tree) → is_within p q ≡ false → IsNameless (marks_in_map b p w)
    nameless_map b p (object ms) h = nameless_members b p ms (all_apart p ms h)
    nameless_map b p _ h = refl

    nameless_items : (b p : List ℕ) (i : ℕ) (ts : Items) → ((j : ℕ) → is_within (at_index p j) q ≡ false)
        → IsNameless (marks_of_items b p i ts)
    nameless_items b p i no_items h = refl
    nameless_items b p i (item t ts) h = nameless_both (marks_in b (at_index p i) t) (marks_of_items b p (suc i) ts)
        (nameless_schema b (at_index p i) t (h i)) (nameless_items b p (suc i) ts h)

    nameless_members : (b p : List ℕ) (ms : Members) → IsApart p ms → IsNameless (marks_of_members b p ms)
    nameless_members b p no_members h = refl
    nameless_members b p (member k t ms) h = nameless_both (marks_in b (at_key p k) t) (marks_of_members b p ms)
        (nameless_schema b (at_key p k) t h.0) (nameless_members b p ms h.2)

  -- ---- marks with one such name at most

  abbrev IsOne : List Marked → Type 0
  IsOne [] = ⊤
  IsOne (m ∷ []) = ⊤
  IsOne (m ∷ n ∷ ms) = ⊥

  abbrev IsFew : List Marked → Type 0
  IsFew ms = IsOne (names_at ms)

  few_nameless : (ms : List Marked) → IsNameless ms → IsFew ms
  few_nameless ms h = subst IsOne (sym h) tt

  few_first : (ms ns : List Marked) → IsFew ms → IsNameless ns → IsFew (ms ++ ns)
  few_first ms ns g h = subst IsOne (sym (names_both ms ns ∙ (ap (λ l. names_at ms ++ l) h ∙ append-nil (names_at ms)))) g

  few_second : (ms ns : List Marked) → IsNameless ms → IsFew ns → IsFew (ms ++ ns)
  few_second ms ns g h = subst IsOne (sym (names_both ms ns ∙ ap (λ l. l ++ names_at ns) g)) h

  few_names : (key b p : List ℕ) (w : Tree) → IsFew (name_marks (name_kind key) b p w)
  few_names key b p (string cs) = by (is_dynamic_name (name_kind key) && bytes_eq p q)
    where
      by : (x : Bool) → IsOne (cond x ((name_kind key, with_name b (encode_utf8_all cs), p) ∷ []) [])
      by true = tt
      by false = tt
  few_names key b p _ = tt

  few_form : (f : Form) (a b c d e : List Marked) → IsFew a → IsFew b → IsFew c → IsFew d → IsFew e → IsFew (marks_by f a b c d e)
  few_form form.Anchor a b c d e f g h i j = f
  few_form form.Reference a b c d e f g h i j = g
  few_form form.Schema a b c d e f g h i j = h
  few_form form.Schemas a b c d e f g h i j = i
  few_form form.SchemaMap a b c d e f g h i j = j
  few_form form.PatternMap a b c d e f g h i j = j
  few_form _ a b c d e f g h i j = tt

  some_none : (v : Tree) → Some v ≡ None → ⊥
  some_none v e = cc

  -- the other keys, beside the one that contains q
  others_apart : (p k : List ℕ) (ms : Members) → is_within (at_key p k) q ≡ true → find k ms ≡ None → IsApart p ms
  others_apart p k no_members h e = tt
  others_apart p k (member l u ms) h e = by (others_apart p k ms h) (bytes_eq k l) refl e
    where
      elsewhere : bytes_eq p q ≡ false
      elsewhere = false_from_ne_true (bytes_eq p q)
          (λ g. true≢false (sym (ap (is_within (at_key p k)) ((bytes_eq-Decides p q).0 g) ∙ h) ∙ not_above p k))

      by : (find k ms ≡ None → IsApart p ms) → (x : Bool) → bytes_eq k l ≡ x → cond x (Some u) (find k ms) ≡ None
          → IsApart p (member l u ms)
      by later true f g = absurd (some_none u g)
      by later false f g = (other_key p q k l h f, and_right (bytes_eq (encode_utf8_all l) anchor) (bytes_eq p q) elsewhere, later g)

  -- the other keys, beside `$dynamicAnchor`, at q itself
  unnamed_apart : (p k : List ℕ) (ms : Members) → p ≡ q → encode_utf8_all k ≡ anchor → find k ms ≡ None → IsApart p ms
  unnamed_apart p k no_members h g e = tt
  unnamed_apart p k (member l u ms) h g e = by (unnamed_apart p k ms h g) (bytes_eq k l) refl e
    where
      unnamed : bytes_eq k l ≡ false → bytes_eq (encode_utf8_all l) anchor ≡ false
      unnamed n = false_from_ne_true (bytes_eq (encode_utf8_all l) anchor)
          (λ f. true≢false (sym ((bytes_eq-Decides k l).1 (encodes_same k l
          (g ∙ sym ((bytes_eq-Decides (encode_utf8_all l) anchor).0 f)))) ∙ n))

      by : (find k ms ≡ None → IsApart p ms) → (x : Bool) → bytes_eq k l ≡ x → cond x (Some u) (find k ms) ≡ None
          → IsApart p (member l u ms)
      by later true f n = absurd (some_none u n)
      by later false f n =
          (ap (is_within (at_key p l)) (sym h) ∙ not_above p l, ap (λ x. x && bytes_eq p q) (unnamed f), later n)

  among_by : (b p k : List ℕ) (w : Tree) (ms : Members) → find k ms ≡ None → (x : Bool) → is_within (at_key p k) q ≡ x
      → (y : Bool) → (bytes_eq (encode_utf8_all k) anchor && bytes_eq p q) ≡ y
      → IsFew (marks_in b (at_key p k) w) → IsFew (marks_in_list b (at_key p k) w) → IsFew (marks_in_map b (at_key p k) w)
      → IsFew (marks_among b p ms) → IsFew (marks_at b p k w ++ marks_among b p ms)
  among_by b p k w ms e true f y g one list entries rest = few_first (marks_at b p k w) (marks_among b p ms)
      (few_form (form_at (encode_utf8_all k)) (name_marks (name_kind (encode_utf8_all k)) b p w) (reference_marks p w)
      (marks_in b (at_key p k) w) (marks_in_list b (at_key p k) w) (marks_in_map b (at_key p k) w)
      (few_names (encode_utf8_all k) b p w) (few_nameless (reference_marks p w) (nameless_references p w)) one list entries)
      (nameless_among b p ms (others_apart p k ms f e))
  among_by b p k w ms e false f true g one list entries rest =
      let both = and_parts (bytes_eq (encode_utf8_all k) anchor) (bytes_eq p q) g in
      few_first (marks_at b p k w) (marks_among b p ms)
      (few_form (form_at (encode_utf8_all k)) (name_marks (name_kind (encode_utf8_all k)) b p w) (reference_marks p w)
      (marks_in b (at_key p k) w) (marks_in_list b (at_key p k) w) (marks_in_map b (at_key p k) w)
      (few_names (encode_utf8_all k) b p w) (few_nameless (reference_marks p w) (nameless_references p w)) one list entries)
      (nameless_among b p ms (unnamed_apart p k ms ((bytes_eq-Decides p q).0 both.1)
      ((bytes_eq-Decides (encode_utf8_all k) anchor).0 both.0) e))
  among_by b p k w ms e false f false g one list entries rest = few_second (marks_at b p k w) (marks_among b p ms)
      (nameless_form (form_at (encode_utf8_all k)) (name_marks (name_kind (encode_utf8_all k)) b p w) (reference_marks p w)
      (marks_in b (at_key p k) w) (marks_in_list b (at_key p k) w) (marks_in_map b (at_key p k) w)
      (nameless_names (encode_utf8_all k) b p w g) (nameless_references p w) (nameless_schema b (at_key p k) w f)
      (nameless_list b (at_key p k) w f) (nameless_map b (at_key p k) w f)) rest

  rest_nameless : (b p : List ℕ) (n j : ℕ) (ts : Items) → n < 2 ^ 64 → is_within (at_index p n) q ≡ true → n < j
      → j + item_count ts ≤ 2 ^ 64 → IsNameless (marks_of_items b p j ts)
  rest_nameless b p n j no_items a h l m = refl
  rest_nameless b p n j (item t ts) a h l m =
      let below : j < 2 ^ 64 = omega (arith, m) in
      let past : n < suc j = omega (arith, l) in
      let more : suc j + item_count ts ≤ 2 ^ 64 = omega (arith, m) in
      nameless_both (marks_in b (at_index p j) t) (marks_of_items b p (suc j) ts)
      (nameless_schema b (at_index p j) t (other_index p q n j a below h (λ e. omega (arith, e, l))))
      (rest_nameless b p n (suc j) ts a h past more)

  items_by : (b p : List ℕ) (i : ℕ) (t : Tree) (ts : Items) → i + suc (item_count ts) ≤ 2 ^ 64 → (x : Bool)
      → is_within (at_index p i) q ≡ x → IsFew (marks_in b (at_index p i) t) → IsFew (marks_of_items b p (suc i) ts)
      → IsFew (marks_in b (at_index p i) t ++ marks_of_items b p (suc i) ts)
  items_by b p i t ts l true h first rest =
      let below : i < 2 ^ 64 = omega (arith, l) in
      let next : i < suc i = omega arith in
      let more : suc i + item_count ts ≤ 2 ^ 64 = omega (arith, l) in
      few_first (marks_in b (at_index p i) t) (marks_of_items b p (suc i) ts) first (rest_nameless b p i (suc i) ts below h next more)
  items_by b p i t ts l false h first rest =
      few_second (marks_in b (at_index p i) t) (marks_of_items b p (suc i) ts) (nameless_schema b (at_index p i) t h) rest

  members_by : (b p k : List ℕ) (t : Tree) (ms : Members) → find k ms ≡ None → (x : Bool) → is_within (at_key p k) q ≡ x
      → IsFew (marks_in b (at_key p k) t) → IsFew (marks_of_members b p ms) → IsFew (marks_in b (at_key p k) t ++ marks_of_members b p ms)
  members_by b p k t ms e true h first rest = few_first (marks_in b (at_key p k) t) (marks_of_members b p ms) first
      (nameless_members b p ms (others_apart p k ms h e))
  members_by b p k t ms e false h first rest =
      few_second (marks_in b (at_key p k) t) (marks_of_members b p ms) (nameless_schema b (at_key p k) t h) rest

  mutual
    few_schema : (b p : List ℕ) (w : Tree) → IsTree w → IsShort w → IsFew (marks_in b p w)
    few_schema b p (object ms) s h = few_second (resource_marks (base_in b (object ms)) p (object ms))
        (marks_among (base_in b (object ms)) p ms) (nameless_resources (base_in b (object ms)) p (object ms))
        (few_among (base_in b (object ms)) p ms s.0 s.1 h)
    few_schema b p _ s h = tt

    few_among : (b p : List ℕ) (ms : Members) → AreMembersAt power_width ms → IsSorted ms → HaveShort ms → IsFew (marks_among b p ms)
    few_among b p no_members s o h = tt
    few_among b p (member k w ms) s o h =
        among_by b p k w ms (find_below k ms o.0 o.1) (is_within (at_key p k) q) refl
        (bytes_eq (encode_utf8_all k) anchor && bytes_eq p q) refl
        (few_schema b (at_key p k) w s.1 h.0) (few_list b (at_key p k) w s.1 h.0) (few_map b (at_key p k) w s.1 h.0)
        (few_among b p ms s.2 o.1 h.1)

    few_list : (b p : List ℕ) (w : Tree) → IsTree w → IsShort w → IsFew (marks_in_list b p w)
    few_list b p (array ts) s h = few_items b p 0 ts s h.1 (omega (arith, h.0))
    few_list b p _ s h = tt

    few_map : (b p : List ℕ) (w : Tree) → IsTree w → IsShort w → IsFew (marks_in_map b p w)
    few_map b p (object ms) s h = few_members b p ms s.0 s.1 h
    few_map b p _ s h = tt

    few_items : (b p : List ℕ) (i : ℕ) (ts : Items) → AreItemsAt power_width ts → AreShort ts → i + item_count ts ≤ 2 ^ 64
        → IsFew (marks_of_items b p i ts)
    few_items b p i no_items s h l = tt
    few_items b p i (item t ts) s h l = items_by b p i t ts l (is_within (at_index p i) q) refl (few_schema b (at_index p i) t s.0 h.0)
        (few_items b p (suc i) ts s.1 h.1 (omega (arith, l)))

    few_members : (b p : List ℕ) (ms : Members) → AreMembersAt power_width ms → IsSorted ms → HaveShort ms
        → IsFew (marks_of_members b p ms)
    few_members b p no_members s o h = tt
    few_members b p (member k t ms) s o h = members_by b p k t ms (find_below k ms o.0 o.1) (is_within (at_key p k) q) refl
        (few_schema b (at_key p k) t s.1 h.0) (few_members b p ms s.2 o.1 h.1)

  -- ---- two of them are one

  named_among : (m : Marked) (ms : List Marked) → (is_dynamic_name m.0 && bytes_eq m.2 q) ≡ true → IsAmong m ms → IsAmong m (names_at ms)
  named_among m [] h a = a
  named_among m (n ∷ ms) h a = by (named_among m ms h) (is_dynamic_name n.0 && bytes_eq n.2 q) refl a
    where
      by : (IsAmong m ms → IsAmong m (names_at ms)) → (x : Bool) → (is_dynamic_name n.0 && bytes_eq n.2 q) ≡ x
          → IsAmong m (n ∷ ms) → IsAmong m (cond x (n ∷ names_at ms) (names_at ms))
      by later true e (inl f) = inl f
      by later true e (inr f) = inr (later f)
      by later false e (inl f) = absurd (true≢false (sym h ∙ (ap (λ x. is_dynamic_name x.0 && bytes_eq x.2 q) f ∙ e)))
      by later false e (inr f) = later f

  only_one : (l : List Marked) (m n : Marked) → IsOne l → IsAmong m l → IsAmong n l → m ≡ n
  only_one [] m n h a b = absurd a
  only_one (k ∷ []) m n h (inl a) (inl b) = a ∙ sym b
  only_one (k ∷ []) m n h (inl a) (inr b) = absurd b
  only_one (k ∷ []) m n h (inr a) b = absurd a
  only_one (k ∷ l ∷ ms) m n h a b = absurd h

pub one_name : (t : Tree) → IsTree t → IsShort t → OneName (marks_of t) (base_in [] t)
one_name t s h m n a b e f g = only_one n.2 (names_at n.2 (marks_of t)) m n (few_schema n.2 [] [] t s h)
    (named_among n.2 m (marks_of t) (and_from (is_dynamic_name m.0) (bytes_eq m.2 n.2) e ((bytes_eq-Decides m.2 n.2).1 g)) a)
    (named_among n.2 n (marks_of t) (and_from (is_dynamic_name n.0) (bytes_eq n.2 n.2) f ((bytes_eq-Decides n.2 n.2).1 refl)) b)
