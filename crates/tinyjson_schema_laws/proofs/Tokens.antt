-- Where tokens lead in a document. All marks of a document are at places of its schemas, and so is what references lead to.
use Rattle.std.proofs.Common.{◌≡◌, ℕ, zero, suc, ◌+◌, ◌<◌, ◌^◌, Bool, true, false, ◌&&◌, List, [], ◌∷◌, ◌++◌, Option, Some, None}
use Rattle.std.proofs.Common.{IsTrue}
use Rattle.std.proofs.Common.{cond, is_some, refl, sym, ap, ◌∙◌, true≢false, bytes_eq, subst, option_map, encode_utf8_all, arith}
use Rattle.std.proofs.Common.{append_assoc}
use Rattle.std.proofs.Common.{append-nil}
use Rattle.std.proofs.lemmas.Fmt.{IsAscii-decimal}
use Rattle.std.proofs.lemmas.Option.{same_Some}
use Rattle.std.proofs.lemmas.Slice.Eq.{bytes_eq-Decides}
use Rattle.std.proofs.lemmas.Str.{scalars-chars, chars-IsAscii, IsUtf8-from_ascii, IsUtf8-from_is_utf8}
use Rattle.std.specs.Fmt.{decimal}
use Rattle.std.specs.Option.{option_map_or, option_or}
use Rattle.std.specs.Prelude.{⊤, option_and_then, unwrap_or}
use Rattle.std.specs.Str.{IsUtf8, is_utf8, chars, all_scalars}
use Rattle.tinyjson.specs.Index.{nth, item_count}
use Rattle.tinyjson.specs.Tree.{Tree, string, array, object, Items, no_items, item, Members, no_members, member, find}
use Rattle.tinyjson_number.specs.Numeral.{power_width}
use Rattle.tinyjson_grammar.specs.Soundness.{IsTree, AreMembersAt, IsSorted}
use Rattle.tinyjson_pointer.proofs.Indices.{decimal_index}
use Rattle.tinyjson_pointer.specs.Text.{pointer_text, split}
use Rattle.tinyjson_pointer.specs.Walk.{step, item_of}
use Rattle.text_uri.specs.Resolving.{resolved, without_fragment, fragment_of}
use Rattle.tinyjson_schema_keywords.specs.Forms.{form_at}
use Rattle.tinyjson_schema_keywords.specs.References.{form_in, percent_decoded}
use Rattle.tinyjson_schema_keywords.specs.declared.keyword.Form.{Form}
use Rattle.tinyjson_schema_keywords.specs.declared.keyword.Form.TheVariants as form
use Rattle.tinyjson_schema_bundle.specs.Bundles.{Marked, marks_of, base_in, at_key, at_index, place_after, is_resource, resource_marks}
use Rattle.tinyjson_schema_bundle.specs.Bundles.{name_kind}
use Rattle.tinyjson_schema_bundle.specs.Bundles.{name_marks, reference_marks, marks_by, marks_in, marks_among, marks_in_list, marks_in_map}
use Rattle.tinyjson_schema_bundle.specs.Bundles.{marks_of_items, marks_of_members, is_place, place_of, is_dynamic_at, dynamic_place}
use Rattle.tinyjson_schema_bundle.specs.Bundles.{with_name}
use Rattle.tinyjson_schema_bundle.specs.Bundles.{begins_pointer, place_below, leads_by, first_place}
use Rattle.tinyjson_schema_bundle.specs.declared.mark.Kind.{Kind}
use Rattle.tinyjson_schema_bundle.specs.declared.mark.Kind.TheVariants as kind
use Rattle.tinyjson_schema_laws.specs.Scoped.{Scope, base, outermost, dynamic_in, leads_in, led_to, located, located_at, base_within}
use Rattle.tinyjson_schema_laws.proofs.Containing.{IsShort, nth_short, found_short, index_key}
use Rattle.tinyjson_schema_laws.proofs.Places.{AreScalars, tokens_scalars}
use Rattle.tinyjson_schema_laws.proofs.Texts.{located_there}
use Rattle.tinyjson_schema_laws.proofs.Walk.{found_sound, nth_sound, first_found, rest_found}

-- ---- tokens

pub place_more : (p : List ℕ) (ks : List (List ℕ)) (k : List ℕ) → place_after p (ks ++ k ∷ []) ≡ at_key (place_after p ks) k
place_more p [] k = refl
place_more p (j ∷ ks) k = place_more (at_key p j) ks k

pub place_both : (p : List ℕ) (ks ls : List (List ℕ)) → place_after p (ks ++ ls) ≡ place_after (place_after p ks) ls
place_both p [] ls = refl
place_both p (k ∷ ks) ls = place_both (at_key p k) ks ls

pub both_scalars : (ks ls : List (List ℕ)) → AreScalars ks → AreScalars ls → AreScalars (ks ++ ls)
both_scalars [] ls h g = g
both_scalars (k ∷ ks) ls h g = (h.0, both_scalars ks ls h.1 g)

key_scalars : (k : List ℕ) (ms : Members) (v : Tree) → AreMembersAt power_width ms → find k ms ≡ Some v → IsTrue (all_scalars k)
key_scalars k no_members v h e = absurd (let none : None ≡ Some v = e in cc)
key_scalars k (member l u ms) v h e = by (key_scalars k ms v h.2) (bytes_eq k l) refl e
  where
    by : (find k ms ≡ Some v → IsTrue (all_scalars k)) → (b : Bool) → bytes_eq k l ≡ b → cond b (Some u) (find k ms) ≡ Some v
        → IsTrue (all_scalars k)
    by later true g e = subst (λ x. IsTrue (all_scalars x)) (sym ((bytes_eq-Decides k l).0 g)) h.0
    by later false g e = later e

decimal_scalars : (i : ℕ) → i < 2 ^ 64 → IsTrue (all_scalars (decimal i))
decimal_scalars i h = subst (λ x. IsTrue (all_scalars x)) (chars-IsAscii (decimal i) (IsAscii-decimal i h))
    (scalars-chars (decimal i) (IsUtf8-from_ascii (decimal i) (IsAscii-decimal i h)))

pub nth_count : (ts : Items) (i : ℕ) (v : Tree) → nth ts i ≡ Some v → i < item_count ts
nth_count no_items i v e = absurd (let none : None ≡ Some v = e in cc)
nth_count (item t ts) zero v e = omega arith
nth_count (item t ts) (suc i) v e = let h = nth_count ts i v e in omega (arith, h)

-- ---- where tokens lead

-- Tokens lead from the document to the value w at the place p, with the form f and the base URI b around it.
pub record HasTokens (t : Tree) (f : Form) (b p : List ℕ) (w : Tree) : Type 0 where
  pub tokens : List (List ℕ)
  pub scalars : AreScalars tokens
  pub place : p ≡ place_after [] tokens
  pub goes : (ls : List (List ℕ)) → located form.Schema [] t (tokens ++ ls) ≡ located f b w ls
  pub sound : IsTree w
  pub short : IsShort w

module _ (t : Tree) where
  pub at_root : IsTree t → IsShort t → HasTokens t form.Schema [] [] t
  at_root h g = record { tokens = []; scalars = tt; place = refl; goes = λ ls. refl; sound = h; short = g }

  at_token : (f : Form) (b p : List ℕ) (w : Tree) → HasTokens t f b p w → (k : List ℕ) (v : Tree) → IsTrue (all_scalars k) → step w k
      ≡ Some v
      → IsTree v → IsShort v → HasTokens t (form_in f k) (base_within f b w) (at_key p k) v
  at_token f b p w a k v s e h g = record {
    tokens = a.tokens ++ k ∷ [];
    scalars = both_scalars a.tokens (k ∷ []) a.scalars (s, tt);
    place = ap (λ x. at_key x k) a.place ∙ sym (place_more [] a.tokens k);
    goes = λ ls. ap (located form.Schema [] t) (append_assoc a.tokens (k ∷ []) ls) ∙ (a.goes (k ∷ ls)
        ∙ ap (option_and_then (λ v. located (form_in f k) (base_within f b w) v ls)) e);
    sound = h;
    short = g;
  }

  pub at_member : (b p : List ℕ) (ms : Members) → HasTokens t form.Schema b p (object ms) → (k : List ℕ) (w : Tree) → find k ms ≡ Some w
      → HasTokens t (form_at (encode_utf8_all k)) (base_in b (object ms)) (at_key p k) w
  at_member b p ms a k w e = at_token form.Schema b p (object ms) a k w (key_scalars k ms w a.sound.0 e) e (found_sound k ms w a.sound.0 e)
      (found_short k ms w a.short e)

  pub at_entry : (b p : List ℕ) (ms : Members) → HasTokens t form.SchemaMap b p (object ms) → (k : List ℕ) (w : Tree) → find k ms ≡ Some w
      → HasTokens t form.Schema b (at_key p k) w
  at_entry b p ms a k w e = at_token form.SchemaMap b p (object ms) a k w (key_scalars k ms w a.sound.0 e) e
      (found_sound k ms w a.sound.0 e)
      (found_short k ms w a.short e)

  pub at_map : (b p : List ℕ) (w : Tree) → HasTokens t form.PatternMap b p w → HasTokens t form.SchemaMap b p w
  at_map b p w a = record {
    tokens = a.tokens;
    scalars = a.scalars;
    place = a.place;
    goes = λ ls. a.goes ls ∙ same ls;
    sound = a.sound;
    short = a.short;
  }
    where
      same : (ls : List (List ℕ)) → located form.PatternMap b w ls ≡ located form.SchemaMap b w ls
      same [] = refl
      same (l ∷ ls) = refl

  pub at_item : (b p : List ℕ) (ts : Items) → HasTokens t form.Schemas b p (array ts) → (i : ℕ) (v : Tree) → nth ts i ≡ Some v
      → HasTokens t form.Schema b (at_index p i) v
  at_item b p ts a i v e =
      let h = nth_count ts i v e in
      let g = a.short.0 in
      let small : i < 2 ^ 64 = omega (arith, h, g) in
      subst (λ q. HasTokens t form.Schema b q v) (index_key p i small)
      (at_token form.Schemas b p (array ts) a (decimal i) v (decimal_scalars i small) (ap (item_of ts) (decimal_index i small) ∙ e)
      (nth_sound ts i v a.sound e) (nth_short ts i v a.short.1 e))

  -- ---- marks

  -- a schema is at the place
  abbrev pub Stands : List ℕ → Type 0
  Stands p = (b : List ℕ) × (s : Tree) × HasTokens t form.Schema b p s

  abbrev pub AllStand : List Marked → Type 0
  AllStand [] = ⊤
  AllStand (m ∷ ms) = Stands m.2 × AllStand ms

  both : (ms ns : List Marked) → AllStand ms → AllStand ns → AllStand (ms ++ ns)
  both [] ns g h = h
  both (m ∷ ms) ns g h = (g.0, both ms ns g.1 h)

  resources : (b p : List ℕ) (s : Tree) → Stands p → AllStand (resource_marks b p s)
  resources b p s h = by (is_resource p s)
    where
      by : (x : Bool) → AllStand (cond x ((kind.Resource, b, p) ∷ []) [])
      by true = (h, tt)
      by false = tt

  names : (k : Kind) (b p : List ℕ) (w : Tree) → Stands p → AllStand (name_marks k b p w)
  names k b p (string cs) h = (h, tt)
  names k b p _ h = tt

  references : (p : List ℕ) (w : Tree) → Stands p → AllStand (reference_marks p w)
  references p (string cs) h = (h, tt)
  references p _ h = tt

  -- the members are among those of the object
  abbrev pub AreOf : Members → Members → Type 0
  AreOf ms ns = (k : List ℕ) (v : Tree) → find k ms ≡ Some v → find k ns ≡ Some v

  -- the items are those of the array from the index on
  abbrev pub AreFrom : ℕ → Items → Items → Type 0
  AreFrom i ts us = (j n : ℕ) (v : Tree) → n ≡ i + j → nth ts j ≡ Some v → nth us n ≡ Some v

  -- the marks of a keyword stand if those of the value in its form do
  of_form : (f : Form) (b p q : List ℕ) (k : Kind) (w : Tree) → Stands p → HasTokens t f b q w
      → (HasTokens t form.Schema b q w → AllStand (marks_in b q w)) → (HasTokens t form.Schemas b q w → AllStand (marks_in_list b q w))
      → (HasTokens t form.SchemaMap b q w → AllStand (marks_in_map b q w))
      → AllStand (marks_by f (name_marks k b p w) (reference_marks p w) (marks_in b q w) (marks_in_list b q w) (marks_in_map b q w))
  of_form form.Anchor b p q k w h a x y z = names k b p w h
  of_form form.Reference b p q k w h a x y z = references p w h
  of_form form.Schema b p q k w h a x y z = x a
  of_form form.Schemas b p q k w h a x y z = y a
  of_form form.SchemaMap b p q k w h a x y z = z a
  of_form form.PatternMap b p q k w h a x y z = z (at_map b q w a)
  of_form _ b p q k w h a x y z = tt

  mutual
    in_schema : (b p : List ℕ) (w : Tree) → HasTokens t form.Schema b p w → AllStand (marks_in b p w)
    in_schema b p (object ms) a = both (resource_marks (base_in b (object ms)) p (object ms)) (marks_among (base_in b (object ms)) p ms)
        (resources (base_in b (object ms)) p (object ms) (b, object ms, a)) (among b p ms ms a a.sound.1 (λ k v e. e))
    in_schema b p _ a = tt

    among : (b p : List ℕ) (ns ms : Members) → HasTokens t form.Schema b p (object ns) → IsSorted ms → AreOf ms ns
        → AllStand (marks_among (base_in b (object ns)) p ms)
    among b p ns no_members a s h = tt
    among b p ns (member k w ms) a s h = both _ (marks_among (base_in b (object ns)) p ms)
        (of_form (form_at (encode_utf8_all k)) (base_in b (object ns)) p (at_key p k) (name_kind (encode_utf8_all k)) w (b, object ns, a)
        (at_member b p ns a k w (first_found k w ms ns h)) (in_schema (base_in b (object ns)) (at_key p k) w)
        (in_list (base_in b (object ns)) (at_key p k) w) (in_map (base_in b (object ns)) (at_key p k) w))
        (among b p ns ms a s.1 (rest_found k w ms ns s h))

    in_list : (b p : List ℕ) (w : Tree) → HasTokens t form.Schemas b p w → AllStand (marks_in_list b p w)
    in_list b p (array ts) a = of_items b p 0 ts ts a (λ j n v l e. ap (nth ts) (let same : n ≡ j = omega (arith, l) in same) ∙ e)
    in_list b p _ a = tt

    in_map : (b p : List ℕ) (w : Tree) → HasTokens t form.SchemaMap b p w → AllStand (marks_in_map b p w)
    in_map b p (object ms) a = of_members b p ms ms a a.sound.1 (λ k v e. e)
    in_map b p _ a = tt

    of_items : (b p : List ℕ) (i : ℕ) (us ts : Items) → HasTokens t form.Schemas b p (array us) → AreFrom i ts us
        → AllStand (marks_of_items b p i ts)
    of_items b p i us no_items a h = tt
    of_items b p i us (item v ts) a h = both (marks_in b (at_index p i) v) (marks_of_items b p (suc i) ts)
        (in_schema b (at_index p i) v (at_item b p us a i v (h 0 i v (omega arith) refl)))
        (of_items b p (suc i) us ts a (λ j n x l e. h (suc j) n x (omega (arith, l)) e))

    of_members : (b p : List ℕ) (ns ms : Members) → HasTokens t form.SchemaMap b p (object ns) → IsSorted ms → AreOf ms ns
        → AllStand (marks_of_members b p ms)
    of_members b p ns no_members a s h = tt
    of_members b p ns (member k w ms) a s h = both (marks_in b (at_key p k) w) (marks_of_members b p ms)
        (in_schema b (at_key p k) w (at_entry b p ns a k w (first_found k w ms ns h)))
        (of_members b p ns ms a s.1 (rest_found k w ms ns s h))

  module _ (sound : IsTree t) (short : IsShort t) where
    pub all_stand : AllStand (marks_of t)
    all_stand = in_schema [] [] t (at_root sound short)

    found_stands : (test : Marked → Bool) (look : List Marked → Option (List ℕ)) → (look [] ≡ None)
        → ((m : Marked) (ms : List Marked) → look (m ∷ ms) ≡ cond (test m) (Some m.2) (look ms)) → (ms : List Marked) → AllStand ms
        → (p : List ℕ) → look ms ≡ Some p → Stands p
    found_stands test look none more [] h p e = absurd (let no : None ≡ Some p = sym none ∙ e in cc)
    found_stands test look none more (m ∷ ms) h p e =
        by (found_stands test look none more ms h.1 p) (test m) (sym (more m ms) ∙ e)
      where
        by : (look ms ≡ Some p → Stands p) → (b : Bool) → cond b (Some m.2) (look ms) ≡ Some p → Stands p
        by later true f = subst Stands (same_Some m.2 p f) h.0
        by later false f = later f

    pub place_stands : (u p : List ℕ) → place_of (marks_of t) u ≡ Some p → Stands p
    place_stands u p e = found_stands (λ m. is_place m.0 && bytes_eq m.1 u) (λ ms. place_of ms u) refl (λ m ms. refl) (marks_of t)
        all_stand p e

    pub dynamic_stands : (u p : List ℕ) → dynamic_place (marks_of t) u ≡ Some p → Stands p
    dynamic_stands u p e = found_stands (λ m. is_dynamic_at m u) (λ ms. dynamic_place ms u) refl (λ m ms. refl) (marks_of t) all_stand p e

    -- ---- what references lead to

    -- the schema x is at the place q
    pub record Located (q : List ℕ) (x : List ℕ × Tree) : Type 0 where
      pub tokens : List (List ℕ)
      pub scalars : AreScalars tokens
      pub place : q ≡ place_after [] tokens
      pub is : located form.Schema [] t tokens ≡ Some x

    pub stands_located : (q : List ℕ) → Stands q → (x : List ℕ × Tree) × Located q x
    stands_located q s = (
      (base_in s.0 s.1, s.1),
      record {
        tokens = s.2.tokens;
        scalars = s.2.scalars;
        place = s.2.place;
        is = sym (ap (located form.Schema [] t) (append-nil s.2.tokens)) ∙ s.2.goes [];
      },
    )

    pub there : (q : List ℕ) (x : List ℕ × Tree) → Located q x → located_at t q ≡ Some x
    there q x l = ap (located_at t) l.place ∙ (located_there l.tokens l.scalars t ∙ l.is)

    pub outermost_stands : (c : Scope) (n p : List ℕ) → outermost (marks_of t) c n ≡ Some p → Stands p
    outermost_stands [] n p e = absurd (let no : None ≡ Some p = e in cc)
    outermost_stands (u ∷ c) n p e = by (outermost (marks_of t) c n) (outermost_stands c n p) e
      where
        by : (o : Option (List ℕ)) → (o ≡ Some p → Stands p) → option_or o (dynamic_place (marks_of t) (with_name u n)) ≡ Some p → Stands p
        by None later f = dynamic_stands (with_name u n) p f
        by (Some q) later f = later f

    -- it is a place, at which a schema is
    abbrev pub Homes : Option (List ℕ) → Type 0
    Homes o = (q : List ℕ) × (x : List ℕ × Tree) × (o ≡ Some q) × Located q x

    abbrev Found : Option (List ℕ) → Type 0
    Found o = (q : List ℕ) × (x : List ℕ × Tree) × (o ≡ Some q) × (located_at t q ≡ Some x)

    standing : (o : Option (List ℕ)) (q : List ℕ) → o ≡ Some q → Stands q → Homes o
    standing o q e s = let l = stands_located q s in (q, l.0, e, l.1)

    place_homes : (u : List ℕ) → Found (place_of (marks_of t) u) → Homes (place_of (marks_of t) u)
    place_homes u f = standing (place_of (marks_of t) u) f.0 f.2 (place_stands u f.0 f.2)

    some_place : (o : Option (List ℕ)) (f : List ℕ → Option (List ℕ)) (q : List ℕ) → option_and_then f o ≡ Some q
        → (p : List ℕ) × (o ≡ Some p) × (f p ≡ Some q)
    some_place None f q e = absurd (let no : None ≡ Some q = e in cc)
    some_place (Some p) f q e = (p, refl, e)

    -- the tokens of a pointer
    pub below_tokens : (p ds q : List ℕ) → IsUtf8 ds → place_below p ds ≡ Some q
        → (ks : List (List ℕ)) × AreScalars ks × (q ≡ place_after p ks)
    below_tokens p ds q u e = by (bytes_eq (pointer_text (split false (chars ds)).1) (chars ds)) refl e
      where
        by : (b : Bool) → bytes_eq (pointer_text (split false (chars ds)).1) (chars ds) ≡ b
            → option_map (place_after p) (cond b (Some (split false (chars ds)).1) None) ≡ Some q
            → (ks : List (List ℕ)) × AreScalars ks × (q ≡ place_after p ks)
        by true f g = (
          (split false (chars ds)).1,
          tokens_scalars (split false (chars ds)).1
              (subst (λ xs. IsTrue (all_scalars xs)) (sym ((bytes_eq-Decides (pointer_text (split false (chars ds)).1) (chars ds)).0 f))
              (scalars-chars ds u)),
          sym (same_Some (place_after p (split false (chars ds)).1) q g),
        )
        by false f g = absurd (let no : None ≡ Some q = g in cc)

    pointer_homes : (u ds : List ℕ) → IsUtf8 ds → Found (option_and_then (λ p. place_below p ds) (place_of (marks_of t) u))
        → Homes (option_and_then (λ p. place_below p ds) (place_of (marks_of t) u))
    pointer_homes u ds h f =
        let p = some_place (place_of (marks_of t) u) (λ p. place_below p ds) f.0 f.2 in
        let s = place_stands u p.0 p.1 in
        let ks = below_tokens p.0 ds f.0 h p.2 in
        let scalars = both_scalars s.2.tokens ks.0 s.2.scalars ks.1 in
        let place : f.0 ≡ place_after [] (s.2.tokens ++ ks.0)
        = ks.2 ∙ (ap (λ x. place_after x ks.0) s.2.place ∙ sym (place_both [] s.2.tokens ks.0)) in (
          f.0,
          f.1,
          f.2,
          record {
            tokens = s.2.tokens ++ ks.0;
            scalars = scalars;
            place = place;
            is = sym (located_there (s.2.tokens ++ ks.0) scalars t) ∙ (ap (located_at t) (sym place) ∙ f.3);
          },
        )

    module _ (c d : Scope) where
      name_homes : (u n : List ℕ) → Found (dynamic_in (marks_of t) d u n) → Homes (dynamic_in (marks_of t) c u n)
      name_homes u n f = by (dynamic_place (marks_of t) (with_name u n)) refl f
        where
          outer : (p : List ℕ) (o : Option (List ℕ)) → outermost (marks_of t) c n ≡ o → Stands p → Homes (Some (unwrap_or o p))
          outer p None e s = standing (Some p) p refl s
          outer p (Some q) e s = standing (Some q) q refl (outermost_stands c n q e)

          by : (o : Option (List ℕ)) → dynamic_place (marks_of t) (with_name u n) ≡ o
              → Found (option_map_or (λ p. Some (unwrap_or (outermost (marks_of t) d n) p)) o (place_of (marks_of t) (with_name u n)))
              → Homes (option_map_or (λ p. Some (unwrap_or (outermost (marks_of t) c n) p)) o (place_of (marks_of t) (with_name u n)))
          by None e g = place_homes (with_name u n) g
          by (Some p) e g = outer p (outermost (marks_of t) c n) refl (dynamic_stands (with_name u n) p e)

      first_homes : (dynamic : Bool) (b x : List ℕ) → Found (first_place (leads_in (marks_of t) d) dynamic b x)
          → Homes (first_place (leads_in (marks_of t) c) dynamic b x)
      first_homes dynamic b x f = by (percent_decoded (unwrap_or (fragment_of x) [])) f
        where
          by_name : (ds : List ℕ) (y : Bool)
              → Found (cond y (dynamic_in (marks_of t) d (without_fragment x) ds)
              (place_of (marks_of t) (with_name (without_fragment x) ds)))
              → Homes (cond y (dynamic_in (marks_of t) c (without_fragment x) ds)
              (place_of (marks_of t) (with_name (without_fragment x) ds)))
          by_name ds true g = name_homes (without_fragment x) ds g
          by_name ds false g = place_homes (with_name (without_fragment x) ds) g

          by_text : (ds : List ℕ) (y : Bool) → IsUtf8 ds
              → Found (cond y (option_and_then (λ p. place_below p ds) (place_of (marks_of t) (without_fragment x)))
              (cond dynamic (dynamic_in (marks_of t) d (without_fragment x) ds) (place_of (marks_of t)
              (with_name (without_fragment x) ds))))
              → Homes (cond y (option_and_then (λ p. place_below p ds) (place_of (marks_of t) (without_fragment x)))
              (cond dynamic (dynamic_in (marks_of t) c (without_fragment x) ds) (place_of (marks_of t)
              (with_name (without_fragment x) ds))))
          by_text ds true h g = pointer_homes (without_fragment x) ds h g
          by_text ds false h g = by_name ds dynamic g

          by_bytes : (ds : List ℕ) (y : Bool) → is_utf8 ds ≡ y
              → Found (cond y (cond (begins_pointer ds) (option_and_then (λ p. place_below p ds)
              (place_of (marks_of t) (without_fragment x)))
              (cond dynamic (dynamic_in (marks_of t) d (without_fragment x) ds) (place_of (marks_of t)
              (with_name (without_fragment x) ds)))) None)
              → Homes (cond y (cond (begins_pointer ds) (option_and_then (λ p. place_below p ds)
              (place_of (marks_of t) (without_fragment x)))
              (cond dynamic (dynamic_in (marks_of t) c (without_fragment x) ds) (place_of (marks_of t)
              (with_name (without_fragment x) ds)))) None)
          by_bytes ds true h g = by_text ds (begins_pointer ds) (IsUtf8-from_is_utf8 ds h) g
          by_bytes ds false h g = absurd (let no : None ≡ Some g.0 = g.2 in cc)

          by : (o : Option (List ℕ)) → Found (option_and_then (leads_by (leads_in (marks_of t) d) dynamic b (without_fragment x)) o)
              → Homes (option_and_then (leads_by (leads_in (marks_of t) c) dynamic b (without_fragment x)) o)
          by None g = absurd (let no : None ≡ Some g.0 = g.2 in cc)
          by (Some ds) g = by_bytes ds (is_utf8 ds) refl g

      some_found : (o : Option (List ℕ)) → is_some (option_and_then (located_at t) o) ≡ true → Found o
      some_found None h = absurd (true≢false (sym h))
      some_found (Some q) h = by (located_at t q) refl h
        where
          by : (p : Option (List ℕ × Tree)) → located_at t q ≡ p → is_some p ≡ true → Found (Some q)
          by None e g = absurd (true≢false (sym g))
          by (Some x) e g = (q, x, refl, e)

      -- a reference that leads to a schema in one scope does in each with the same base URI
      pub led_homes : base c ≡ base d → (dynamic : Bool) (w : Tree) → is_some (option_and_then (located_at t)
          (led_to (marks_of t) d dynamic w)) ≡ true
          → Homes (led_to (marks_of t) c dynamic w)
      led_homes e dynamic (string cs) h = first_homes dynamic (base c) (resolved (base c) (encode_utf8_all cs))
          (subst (λ b. Found (first_place (leads_in (marks_of t) d) dynamic b (resolved b (encode_utf8_all cs)))) (sym e)
          (some_found (led_to (marks_of t) d dynamic (string cs)) h))
      led_homes e dynamic _ h = absurd (true≢false (sym h))
