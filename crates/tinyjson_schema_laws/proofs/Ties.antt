-- The marks of names in a document of one resource, and the names by which its references are read: they stand in the same
-- order, each with the same schema.
use Rattle.std.proofs.Common.{◌≡◌, ℕ, suc, Bool, true, false, not, List, [], ◌∷◌, ◌++◌, Option, Some, None}
use Rattle.std.proofs.Common.{cond, is_some, refl, sym, ap, ◌∙◌, true≢false, bytes_eq, subst, encode_utf8_all, arith, append_assoc}
use Rattle.std.proofs.Common.{append-nil}
use Rattle.std.proofs.lemmas.Bool.{and_parts}
use Rattle.std.proofs.lemmas.Option.{same_Some}
use Rattle.std.proofs.lemmas.Slice.Eq.{bytes_eq-Decides}
use Rattle.std.specs.Prelude.{⊤}
use Rattle.tinyjson.specs.Index.{nth}
use Rattle.tinyjson.specs.Tree.{Tree, string, array, object, Items, no_items, item, Members, no_members, member}
use Rattle.tinyjson_grammar.specs.Soundness.{IsTree, IsSorted}
use Rattle.text_uri.specs.Resolving.{fragment_of}
use Rattle.tinyjson_schema_keywords.specs.Anchors.{Named, anchors_in, anchors_of, anchors_by, anchors_among, own_anchors, anchored}
use Rattle.tinyjson_schema_keywords.specs.Anchors.{repeated, is_name, is_own_name, is_plain_name}
use Rattle.tinyjson_schema_keywords.specs.Forms.{form_at, is_some_item}
use Rattle.tinyjson_schema_keywords.specs.Names.{name}
use Rattle.tinyjson_schema_keywords.specs.Subschemas.{InSchema, in_schema, members_by, schema_members, members_among, members_in_list}
use Rattle.tinyjson_schema_keywords.specs.Subschemas.{members_in_map, members_of_items, members_of_entries}
use Rattle.tinyjson_schema_keywords.specs.declared.keyword.Form.{Form}
use Rattle.tinyjson_schema_keywords.specs.declared.keyword.Form.TheVariants as form
use Rattle.tinyjson_schema_keywords.specs.declared.keyword.Keyword.TheVariants as kw
use Rattle.tinyjson_schema_bundle.specs.Bundles.{Marked, marks_of, with_name, base_in, at_key, at_index, is_resource, resource_marks}
use Rattle.tinyjson_schema_bundle.specs.Bundles.{name_marks, is_fragment, reference_marks, marks_by, marks_in, marks_among}
use Rattle.tinyjson_schema_bundle.specs.Bundles.{marks_in_list, marks_in_map, marks_of_items, marks_of_members, place_of, dynamic_place}
use Rattle.tinyjson_schema_bundle.specs.declared.mark.Kind.TheVariants as kind
use Rattle.tinyjson_schema.specs.Schemas.{fits, is_schema, keywords_fit, is_schema_list, is_schema_map, are_schemas, have_schemas}
use Rattle.tinyjson_schema_laws.specs.Scoped.{located, located_at}
use Rattle.tinyjson_schema_laws.specs.Short.{IsShort}
use Rattle.tinyjson_schema_laws.proofs.Dynamic.{in_base, empty_base}
use Rattle.tinyjson_schema_laws.proofs.Fitting.{same_base}
use Rattle.tinyjson_schema_laws.proofs.Fragments.{base_clean, no_fragment}
use Rattle.tinyjson_schema_laws.proofs.Texts.{located_there}
use Rattle.tinyjson_schema_laws.proofs.Tokens.{HasTokens, at_root, at_member, at_entry, at_map, at_item, AreOf, AreFrom}
use Rattle.tinyjson_schema_laws.proofs.Walk.{first_found, rest_found}

module _ (t : Tree) where
  abbrev b : List ℕ
  b = base_in [] t

  -- the schema s is at the place, with the base URI of the document, and can be applied
  pub record Holds (p : List ℕ) (s : Tree) : Type 0 where
    pub at : located_at t p ≡ Some (b, s)
    pub whole : Bool
    pub fit : is_schema t whole s ≡ true

  -- the URI and the place of the name, which no other schema has
  abbrev Tie : List ℕ → List ℕ → Named → Type 0
  Tie u p n = (u ≡ with_name b n.0) × (is_name (repeated (anchors_in t)) n.0 ≡ false) × Holds p n.1

  -- the names among the marks are these
  abbrev AreTied : List Marked → List Named → Type 0
  AreTied [] [] = ⊤
  AreTied [] (n ∷ ns) = ⊥
  AreTied ((kind.Resource, u, p) ∷ ms) ns = (u ≡ b) × AreTied ms ns
  AreTied ((kind.Name, u, p) ∷ ms) [] = ⊥
  AreTied ((kind.Name, u, p) ∷ ms) (n ∷ ns) = Tie u p n × AreTied ms ns
  AreTied ((kind.DynamicName, u, p) ∷ ms) [] = ⊥
  AreTied ((kind.DynamicName, u, p) ∷ ms) (n ∷ ns) = Tie u p n × AreTied ms ns
  AreTied ((kind.Inside, u, p) ∷ ms) ns = AreTied ms ns
  AreTied ((kind.Outside, u, p) ∷ ms) ns = AreTied ms ns

  both : (ms os : List Marked) (ns xs : List Named) → AreTied ms ns → AreTied os xs → AreTied (ms ++ os) (ns ++ xs)
  both [] os [] xs g h = h
  both [] os (n ∷ ns) xs g h = absurd g
  both ((kind.Resource, u, p) ∷ ms) os ns xs g h = (g.0, both ms os ns xs g.1 h)
  both ((kind.Name, u, p) ∷ ms) os [] xs g h = absurd g
  both ((kind.Name, u, p) ∷ ms) os (n ∷ ns) xs g h = (g.0, both ms os ns xs g.1 h)
  both ((kind.DynamicName, u, p) ∷ ms) os [] xs g h = absurd g
  both ((kind.DynamicName, u, p) ∷ ms) os (n ∷ ns) xs g h = (g.0, both ms os ns xs g.1 h)
  both ((kind.Inside, u, p) ∷ ms) os ns xs g h = both ms os ns xs g h
  both ((kind.Outside, u, p) ∷ ms) os ns xs g h = both ms os ns xs g h

  -- ---- the names of a document

  anchors_both : (xs ys : List InSchema) → anchors_among (xs ++ ys) ≡ anchors_among xs ++ anchors_among ys
  anchors_both [] ys = refl
  anchors_both (x ∷ xs) ys = ap (λ ns. anchors_of x ++ ns) (anchors_both xs ys)
      ∙ sym (append_assoc (anchors_of x) (anchors_among xs) (anchors_among ys))

  tied_both : (ms os : List Marked) (xs ys : List InSchema) → AreTied ms (anchors_among xs) → AreTied os (anchors_among ys)
      → AreTied (ms ++ os) (anchors_among (xs ++ ys))
  tied_both ms os xs ys g h = subst (AreTied (ms ++ os)) (sym (anchors_both xs ys)) (both ms os _ _ g h)

  holds : (d p : List ℕ) (s : Tree) → HasTokens t form.Schema d p s → base_in d s ≡ b → (x : Bool) → is_schema t x s ≡ true → Holds p s
  holds d p s a e x h = record {
    at = ap (located_at t) a.place ∙ (located_there a.tokens a.scalars t
        ∙ (sym (ap (located form.Schema [] t) (append-nil a.tokens)) ∙ (a.goes [] ∙ ap (λ u. Some (u, s)) e)));
    whole = x;
    fit = h;
  }

  of_resource : (u p : List ℕ) (x : Bool) → u ≡ b → AreTied (cond x ((kind.Resource, u, p) ∷ []) []) []
  of_resource u p true e = (e, tt)
  of_resource u p false e = tt

  of_reference : (p : List ℕ) (w : Tree) → AreTied (reference_marks p w) []
  of_reference p (string cs) = by (is_fragment (encode_utf8_all cs))
    where
      by : (x : Bool) → AreTied ((cond x kind.Inside kind.Outside, encode_utf8_all cs, p) ∷ []) []
      by true = tt
      by false = tt
  of_reference p _ = tt

  of_name : (x : Bool) (d p : List ℕ) (s w : Tree) → d ≡ b → Holds p s → is_own_name t w ≡ true
      → AreTied (name_marks (cond x kind.DynamicName kind.Name) d p w) (own_anchors s w ++ [])
  of_name x d p s (string cs) e h o = by x
    where
      not_true : (y : Bool) → not y ≡ true → y ≡ false
      not_true true g = absurd (true≢false (sym g))
      not_true false g = refl

      tie : Tie (with_name d (encode_utf8_all cs)) p (encode_utf8_all cs, s)
      tie = (ap (λ u. with_name u (encode_utf8_all cs)) e, not_true _ (and_parts (is_plain_name (encode_utf8_all cs)) _ o).1, h)

      by : (x : Bool) → AreTied ((cond x kind.DynamicName kind.Name, with_name d (encode_utf8_all cs), p) ∷ [])
          ((encode_utf8_all cs, s) ∷ [])
      by true = (tie, tt)
      by false = (tie, tt)
  of_name x d p s _ e h o = absurd (true≢false (sym o))

  of_form : (f : Form) (x y : Bool) (d p q : List ℕ) (s w : Tree) → d ≡ b → Holds p s → HasTokens t f d q w → fits t y f w ≡ true
      → (HasTokens t form.Schema d q w → is_schema t false w ≡ true → AreTied (marks_in d q w) (anchors_among (schema_members w)))
      → (HasTokens t form.Schemas d q w → is_schema_list t w ≡ true → AreTied (marks_in_list d q w) (anchors_among (members_in_list w)))
      → (HasTokens t form.SchemaMap d q w → is_schema_map t w ≡ true → AreTied (marks_in_map d q w) (anchors_among (members_in_map w)))
      → AreTied (marks_by f (name_marks (cond x kind.DynamicName kind.Name) d p w) (reference_marks p w) (marks_in d q w)
      (marks_in_list d q w) (marks_in_map d q w))
      (anchors_by f (own_anchors s w) ++ anchors_among (members_by f (schema_members w) (members_in_list w) (members_in_map w)))
  of_form form.Anchor x y d p q s w e h a g i j k = of_name x d p s w e h g
  of_form form.Reference x y d p q s w e h a g i j k = of_reference p w
  of_form form.Schema x y d p q s w e h a g i j k = i a g
  of_form form.Schemas x y d p q s w e h a g i j k = j a g
  of_form form.SchemaMap x y d p q s w e h a g i j k = k a g
  of_form form.PatternMap x y d p q s w e h a g i j k = k (at_map t d q w a) (and_parts _ (is_schema_map t w) g).1
  of_form _ x y d p q s w e h a g i j k = tt

  mutual
    in_one : (d p : List ℕ) (w : Tree) (x : Bool) → base_in d w ≡ b → HasTokens t form.Schema d p w → is_schema t x w ≡ true
        → AreTied (marks_in d p w) (anchors_among (schema_members w))
    in_one d p (object ms) x e a h = both (resource_marks (base_in d (object ms)) p (object ms))
        (marks_among (base_in d (object ms)) p ms) [] (anchors_among (members_among (object ms) ms))
        (of_resource (base_in d (object ms)) p (is_resource p (object ms)) e)
        (among d p ms ms x e a (holds d p (object ms) a e x h) a.sound.1 (λ k v f. f) h)
    in_one d p _ x e a h = tt

    among : (d p : List ℕ) (ns ms : Members) (x : Bool) → base_in d (object ns) ≡ b → HasTokens t form.Schema d p (object ns)
        → Holds p (object ns) → IsSorted ms → AreOf t ms ns → keywords_fit t x ms ≡ true
        → AreTied (marks_among (base_in d (object ns)) p ms) (anchors_among (members_among (object ns) ms))
    among d p ns no_members x e a o s f h = tt
    among d p ns (member k w ms) x e a o s f h =
        let parts = and_parts (fits t x (form_at (encode_utf8_all k)) w) (keywords_fit t x ms) h in
        tied_both (marks_by (form_at (encode_utf8_all k))
        (name_marks (cond (bytes_eq (encode_utf8_all k) (name kw.DynamicAnchor)) kind.DynamicName kind.Name) (base_in d (object ns)) p w)
        (reference_marks p w) (marks_in (base_in d (object ns)) (at_key p k) w) (marks_in_list (base_in d (object ns)) (at_key p k) w)
        (marks_in_map (base_in d (object ns)) (at_key p k) w)) (marks_among (base_in d (object ns)) p ms)
        (in_schema (object ns) (encode_utf8_all k) w
        ∷ members_by (form_at (encode_utf8_all k)) (schema_members w) (members_in_list w) (members_in_map w))
        (members_among (object ns) ms)
        (of_form (form_at (encode_utf8_all k)) (bytes_eq (encode_utf8_all k) (name kw.DynamicAnchor)) x (base_in d (object ns)) p
        (at_key p k) (object ns) w e o
        (at_member t d p ns a k w (first_found k w ms ns f)) parts.0
        (λ i g. in_one (base_in d (object ns)) (at_key p k) w false (same_base t (base_in d (object ns)) w g ∙ e) i g)
        (in_list (base_in d (object ns)) (at_key p k) w e)
        (in_map (base_in d (object ns)) (at_key p k) w e))
        (among d p ns ms x e a o s.1 (rest_found k w ms ns s f) parts.1)

    in_list : (d p : List ℕ) (w : Tree) → d ≡ b → HasTokens t form.Schemas d p w → is_schema_list t w ≡ true
        → AreTied (marks_in_list d p w) (anchors_among (members_in_list w))
    in_list d p (array ts) e a h = of_items d p 0 ts ts e a
        (λ j n v l f. ap (nth ts) (let same : n ≡ j = omega (arith, l) in same) ∙ f)
        (and_parts (is_some_item ts) (are_schemas t ts) h).1
    in_list d p _ e a h = tt

    in_map : (d p : List ℕ) (w : Tree) → d ≡ b → HasTokens t form.SchemaMap d p w → is_schema_map t w ≡ true
        → AreTied (marks_in_map d p w) (anchors_among (members_in_map w))
    in_map d p (object ms) e a h = of_members d p ms ms e a a.sound.1 (λ k v f. f) h
    in_map d p _ e a h = tt

    of_items : (d p : List ℕ) (i : ℕ) (us ts : Items) → d ≡ b → HasTokens t form.Schemas d p (array us) → AreFrom t i ts us
        → are_schemas t ts ≡ true → AreTied (marks_of_items d p i ts) (anchors_among (members_of_items ts))
    of_items d p i us no_items e a f h = tt
    of_items d p i us (item v ts) e a f h =
        let parts = and_parts (is_schema t false v) (are_schemas t ts) h in
        tied_both (marks_in d (at_index p i) v) (marks_of_items d p (suc i) ts) (schema_members v) (members_of_items ts)
        (in_one d (at_index p i) v false (same_base t d v parts.0 ∙ e) (at_item t d p us a i v (f 0 i v (omega arith) refl)) parts.0)
        (of_items d p (suc i) us ts e a (λ j n x l g. f (suc j) n x (omega (arith, l)) g) parts.1)

    of_members : (d p : List ℕ) (ns ms : Members) → d ≡ b → HasTokens t form.SchemaMap d p (object ns) → IsSorted ms → AreOf t ms ns
        → have_schemas t ms ≡ true → AreTied (marks_of_members d p ms) (anchors_among (members_of_entries ms))
    of_members d p ns no_members e a s f h = tt
    of_members d p ns (member k w ms) e a s f h =
        let parts = and_parts (is_schema t false w) (have_schemas t ms) h in
        tied_both (marks_in d (at_key p k) w) (marks_of_members d p ms) (schema_members w) (members_of_entries ms)
        (in_one d (at_key p k) w false (same_base t d w parts.0 ∙ e) (at_entry t d p ns a k w (first_found k w ms ns f)) parts.0)
        (of_members d p ns ms e a s.1 (rest_found k w ms ns s f) parts.1)

  -- ---- the schema with a name

  apart : (n m : List ℕ) → with_name b n ≡ with_name b m → n ≡ m
  apart n m e = same_Some n m (sym (in_base [] t empty_base n) ∙ (ap (λ u. fragment_of u) e ∙ in_base [] t empty_base m))

  same_test : (u n m : List ℕ) → u ≡ with_name b n → bytes_eq u (with_name b m) ≡ bytes_eq n m
  same_test u n m e = by (bytes_eq n m) refl
    where
      other : (x : Bool) → bytes_eq u (with_name b m) ≡ x → bytes_eq n m ≡ false → x ≡ false
      other true f g = absurd (true≢false (sym ((bytes_eq-Decides n m).1 (apart n m (sym e ∙ (bytes_eq-Decides u (with_name b m)).0 f)))
          ∙ g))
      other false f g = refl

      by : (x : Bool) → bytes_eq n m ≡ x → bytes_eq u (with_name b m) ≡ x
      by true f = (bytes_eq-Decides u (with_name b m)).1 (e ∙ ap (with_name b) ((bytes_eq-Decides n m).0 f))
      by false f = other (bytes_eq u (with_name b m)) refl f

  no_name : (u m : List ℕ) → u ≡ b → bytes_eq u (with_name b m) ≡ false
  no_name u m e = by (bytes_eq u (with_name b m)) refl
    where
      by : (x : Bool) → bytes_eq u (with_name b m) ≡ x → x ≡ false
      by true f = absurd (let none : None ≡ Some m = sym (no_fragment b (base_clean t))
          ∙ (ap (λ u. fragment_of u) (sym e ∙ (bytes_eq-Decides u (with_name b m)).0 f) ∙ in_base [] t empty_base m) in cc)
      by false f = refl

  module _ (m : List ℕ) where
    abbrev uri : List ℕ
    uri = with_name b m

    -- the place of the first name
    abbrev Named_at : Option (List ℕ) → Tree → Type 0
    Named_at o r = (q : List ℕ) × (o ≡ Some q) × Holds q r

    here : (u p : List ℕ) (n : Named) (o : Option (List ℕ)) (a : Option Tree) (r : Tree) → Tie u p n
        → (a ≡ Some r → Named_at o r) → cond (bytes_eq n.0 m) (Some n.1) a ≡ Some r
        → Named_at (cond (bytes_eq u uri) (Some p) o) r
    here u p n o a r tie later e = subst (λ y. Named_at (cond y (Some p) o) r) (sym (same_test u n.0 m tie.0)) (by (bytes_eq n.0 m) e)
      where
        by : (y : Bool) → cond y (Some n.1) a ≡ Some r → Named_at (cond y (Some p) o) r
        by true f = (p, refl, subst (Holds p) (same_Some n.1 r f) tie.2)
        by false f = later f

    pub name_found : (ms : List Marked) (ns : List Named) → AreTied ms ns → (r : Tree) → anchored ns m ≡ Some r
        → Named_at (place_of ms uri) r
    name_found [] [] h r e = absurd (let none : None ≡ Some r = e in cc)
    name_found [] (n ∷ ns) h r e = absurd h
    name_found ((kind.Resource, u, p) ∷ ms) ns h r e =
        subst (λ y. Named_at (cond y (Some p) (place_of ms uri)) r) (sym (no_name u m h.0)) (name_found ms ns h.1 r e)
    name_found ((kind.Name, u, p) ∷ ms) [] h r e = absurd h
    name_found ((kind.Name, u, p) ∷ ms) (n ∷ ns) h r e = here u p n (place_of ms uri) (anchored ns m) r h.0 (name_found ms ns h.1 r) e
    name_found ((kind.DynamicName, u, p) ∷ ms) [] h r e = absurd h
    name_found ((kind.DynamicName, u, p) ∷ ms) (n ∷ ns) h r e = here u p n (place_of ms uri) (anchored ns m) r h.0
        (name_found ms ns h.1 r) e
    name_found ((kind.Inside, u, p) ∷ ms) ns h r e = name_found ms ns h r e
    name_found ((kind.Outside, u, p) ∷ ms) ns h r e = name_found ms ns h r e

    -- ---- a name by `$dynamicAnchor` is the only one

    some_later : (y : Bool) (s : Tree) (a : Option Tree) → is_some a ≡ true → is_some (cond y (Some s) a) ≡ true
    some_later true s a h = refl
    some_later false s a h = h

    some_here : (y : Bool) (s : Tree) (a : Option Tree) (p q : List ℕ) (o : Option (List ℕ)) → (o ≡ Some q → is_some a ≡ true)
        → cond y (Some p) o ≡ Some q → is_some (cond y (Some s) a) ≡ true
    some_here true s a p q o later e = refl
    some_here false s a p q o later e = later e

    dynamic_named : (ms : List Marked) (ns : List Named) → AreTied ms ns → (q : List ℕ) → dynamic_place ms uri ≡ Some q
        → is_some (anchored ns m) ≡ true
    dynamic_named [] ns h q e = absurd (let none : None ≡ Some q = e in cc)
    dynamic_named ((kind.Resource, u, p) ∷ ms) ns h q e = dynamic_named ms ns h.1 q e
    dynamic_named ((kind.Name, u, p) ∷ ms) [] h q e = absurd h
    dynamic_named ((kind.Name, u, p) ∷ ms) (n ∷ ns) h q e = some_later (bytes_eq n.0 m) n.1 (anchored ns m) (dynamic_named ms ns h.1 q e)
    dynamic_named ((kind.DynamicName, u, p) ∷ ms) [] h q e = absurd h
    dynamic_named ((kind.DynamicName, u, p) ∷ ms) (n ∷ ns) h q e = some_here (bytes_eq n.0 m) n.1 (anchored ns m) p q (dynamic_place ms uri)
        (dynamic_named ms ns h.1 q)
        (sym (ap (λ y. cond y (Some p) (dynamic_place ms uri)) (same_test u n.0 m h.0.0)) ∙ e)
    dynamic_named ((kind.Inside, u, p) ∷ ms) ns h q e = dynamic_named ms ns h q e
    dynamic_named ((kind.Outside, u, p) ∷ ms) ns h q e = dynamic_named ms ns h q e

    not_repeated : (n : Named) (ns : List Named) → repeated (n ∷ ns) ≡ None → (is_some (anchored ns n.0) ≡ false) × (repeated ns ≡ None)
    not_repeated n ns h = by (is_some (anchored ns n.0)) h
      where
        by : (y : Bool) → cond y (Some n.0) (repeated ns) ≡ None → (y ≡ false) × (repeated ns ≡ None)
        by true f = absurd (let none : Some n.0 ≡ None = f in cc)
        by false f = (refl, f)

    dynamic_first : (ms : List Marked) (ns : List Named) → AreTied ms ns → repeated ns ≡ None → (q : List ℕ)
        → dynamic_place ms uri ≡ Some q → place_of ms uri ≡ Some q
    dynamic_first [] ns h o q e = absurd (let none : None ≡ Some q = e in cc)
    dynamic_first ((kind.Resource, u, p) ∷ ms) ns h o q e =
        ap (λ y. cond y (Some p) (place_of ms uri)) (no_name u m h.0) ∙ dynamic_first ms ns h.1 o q e
    dynamic_first ((kind.Name, u, p) ∷ ms) [] h o q e = absurd h
    dynamic_first ((kind.Name, u, p) ∷ ms) (n ∷ ns) h o q e =
        ap (λ y. cond y (Some p) (place_of ms uri)) (same_test u n.0 m h.0.0 ∙ other (bytes_eq n.0 m) refl)
        ∙ dynamic_first ms ns h.1 (not_repeated n ns o).1 q e
      where
        other : (y : Bool) → bytes_eq n.0 m ≡ y → y ≡ false
        other true f = absurd (true≢false (sym (dynamic_named ms ns h.1 q e)
            ∙ (ap (λ x. is_some (anchored ns x)) (sym ((bytes_eq-Decides n.0 m).0 f)) ∙ (not_repeated n ns o).0)))
        other false f = refl
    dynamic_first ((kind.DynamicName, u, p) ∷ ms) [] h o q e = absurd h
    dynamic_first ((kind.DynamicName, u, p) ∷ ms) (n ∷ ns) h o q e =
        by (dynamic_first ms ns h.1 (not_repeated n ns o).1 q) (bytes_eq u uri) e
      where
        by : (dynamic_place ms uri ≡ Some q → place_of ms uri ≡ Some q) → (y : Bool)
            → cond y (Some p) (dynamic_place ms uri) ≡ Some q → cond y (Some p) (place_of ms uri) ≡ Some q
        by later true f = f
        by later false f = later f
    dynamic_first ((kind.Inside, u, p) ∷ ms) ns h o q e = dynamic_first ms ns h o q e
    dynamic_first ((kind.Outside, u, p) ∷ ms) ns h o q e = dynamic_first ms ns h o q e

  -- ---- no name is repeated

  abbrev AreOwn : Option (List ℕ) → List Named → Type 0
  AreOwn o [] = ⊤
  AreOwn o (n ∷ ns) = (is_name o n.0 ≡ false) × AreOwn o ns

  tied_own : (ms : List Marked) (ns : List Named) → AreTied ms ns → AreOwn (repeated (anchors_in t)) ns
  tied_own [] [] h = tt
  tied_own [] (n ∷ ns) h = absurd h
  tied_own ((kind.Resource, u, p) ∷ ms) ns h = tied_own ms ns h.1
  tied_own ((kind.Name, u, p) ∷ ms) [] h = absurd h
  tied_own ((kind.Name, u, p) ∷ ms) (n ∷ ns) h = (h.0.1, tied_own ms ns h.1)
  tied_own ((kind.DynamicName, u, p) ∷ ms) [] h = absurd h
  tied_own ((kind.DynamicName, u, p) ∷ ms) (n ∷ ns) h = (h.0.1, tied_own ms ns h.1)
  tied_own ((kind.Inside, u, p) ∷ ms) ns h = tied_own ms ns h
  tied_own ((kind.Outside, u, p) ∷ ms) ns h = tied_own ms ns h

  repeated_own : (o : Option (List ℕ)) (ns : List Named) → AreOwn o ns → (m : List ℕ) → repeated ns ≡ Some m → is_name o m ≡ false
  repeated_own o [] h m e = absurd (let none : None ≡ Some m = e in cc)
  repeated_own o (n ∷ ns) h m e = by (repeated_own o ns h.1 m) (is_some (anchored ns n.0)) e
    where
      by : (repeated ns ≡ Some m → is_name o m ≡ false) → (y : Bool) → cond y (Some n.0) (repeated ns) ≡ Some m → is_name o m ≡ false
      by later true f = ap (is_name o) (sym (same_Some n.0 m f)) ∙ h.0
      by later false f = later f

  module _ (sound : IsTree t) (short : IsShort t) (fit : is_schema t true t ≡ true) where
    tied : AreTied (marks_of t) (anchors_in t)
    tied = in_one [] [] t true refl (at_root t sound short) fit

    none_repeated : repeated (anchors_in t) ≡ None
    none_repeated = by (repeated (anchors_in t)) refl
      where
        by : (o : Option (List ℕ)) → repeated (anchors_in t) ≡ o → o ≡ None
        by None e = refl
        by (Some m) e = absurd (true≢false (sym ((bytes_eq-Decides m m).1 refl) ∙ (ap (λ o. is_name o m) (sym e)
            ∙ repeated_own (repeated (anchors_in t)) (anchors_in t) (tied_own (marks_of t) (anchors_in t) tied) m e)))

    -- the schema that is read by the name is at the place of the name
    pub named_place : (m : List ℕ) (r : Tree) → anchored (anchors_in t) m ≡ Some r
        → (q : List ℕ) × (place_of (marks_of t) (with_name (base_in [] t) m) ≡ Some q) × Holds q r
    named_place m r e = name_found m (marks_of t) (anchors_in t) tied r e

    -- the place of a name by `$dynamicAnchor` is that of the name
    pub dynamic_same : (m q : List ℕ) → dynamic_place (marks_of t) (with_name (base_in [] t) m) ≡ Some q
        → place_of (marks_of t) (with_name (base_in [] t) m) ≡ Some q
    dynamic_same m q e = dynamic_first m (marks_of t) (anchors_in t) tied none_repeated q e
