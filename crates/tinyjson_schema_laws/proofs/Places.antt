-- The places of a document are texts, and each is empty or begins with a `/`.
use Rattle.std.proofs.Common.{◌≡◌, ℕ, suc, Bool, true, false, ◌&&◌, ◌==◌, List, [], ◌∷◌, ◌++◌, Option, Some, None, IsTrue}
use Rattle.std.proofs.Common.{cond, refl, sym, bytes_eq, subst, option_map, encode_utf8_all, arith, codes, eqb-true}
use Rattle.std.proofs.lemmas.Bool.{and_parts, and_from}
use Rattle.std.proofs.lemmas.Slice.Eq.{bytes_eq-Decides}
use Rattle.std.proofs.lemmas.Str.{IsUtf8-append, IsUtf8-nil, IsUtf8-from_is_utf8, scalars-chars}
use Rattle.std.proofs.DigitsParse.{digits-IsUtf8}
use Rattle.std.specs.Fmt.{decimal}
use Rattle.std.specs.Prelude.{⊤, option_and_then, unwrap_or}
use Rattle.std.specs.Str.{IsUtf8, is_utf8, chars, all_scalars}
use lib.Utf8.{encode, scalar}
use Rattle.tinyjson.specs.Characters.{solidus, tilde}
use Rattle.tinyjson.specs.Tree.{Tree, string, array, object, Items, no_items, item, Members, no_members, member}
use Rattle.tinyjson_number.specs.Numeral.{power_width}
use Rattle.tinyjson_grammar.specs.Soundness.{IsTree, AreItemsAt, AreMembersAt}
use Rattle.tinyjson_pointer.specs.Text.{pointer_text, escape, escape_char, split}
use Rattle.tinyjson_schema_keywords.specs.Forms.{form_at}
use Rattle.tinyjson_schema_keywords.specs.References.{percent, percent_decoded}
use Rattle.tinyjson_schema_keywords.specs.declared.keyword.Form.{Form}
use Rattle.tinyjson_schema_keywords.specs.declared.keyword.Form.TheVariants as form
use Rattle.text_uri.specs.Resolving.{without_fragment, fragment_of}
use Rattle.tinyjson_schema_bundle.specs.Bundles.{Marked, Leads, token_char, token_text, at_key, at_index, base_in, is_resource}
use Rattle.tinyjson_schema_bundle.specs.Bundles.{resource_marks, name_kind, name_marks, reference_marks, marks_by, marks_in, marks_among}
use Rattle.tinyjson_schema_bundle.specs.Bundles.{marks_in_list, marks_in_map, marks_of_items, marks_of_members, marks_of, is_place}
use Rattle.tinyjson_schema_bundle.specs.Bundles.{place_of}
use Rattle.tinyjson_schema_bundle.specs.Bundles.{is_dynamic_at, dynamic_place, begins_pointer, place_after, place_below, leads_in, leads_by}
use Rattle.tinyjson_schema_bundle.specs.Bundles.{first_place, with_name}
use Rattle.tinyjson_schema_bundle.specs.declared.mark.Kind.{Kind}
use Rattle.tinyjson_schema_bundle.specs.declared.mark.Kind.TheVariants as kind

pub record IsPlace (p : List ℕ) : Type 0 where
  pub text : IsUtf8 p
  pub begins : begins_pointer p ≡ true

pub root_place : IsPlace []
root_place = record { text = IsUtf8-nil; begins = refl }

-- ---- tokens

one_char : (c : ℕ) → IsTrue (all_scalars (c ∷ [])) → IsUtf8 (encode_utf8_all (c ∷ []))
one_char c h = (c ∷ [], (h, refl))

char_text : (c : ℕ) → IsTrue (all_scalars (c ∷ [])) → IsUtf8 (token_char c)
unfolding is_utf8 chars encode
char_text c h = by (c == percent) (c == tilde) (c == solidus)
  where
    by : (x y z : Bool) → IsUtf8 (cond x (codes "%25") (cond y (codes "~0") (cond z (codes "~1") (encode_utf8_all (c ∷ [])))))
    by true y z = IsUtf8-from_is_utf8 (codes "%25") refl
    by false true z = IsUtf8-from_is_utf8 (codes "~0") refl
    by false false true = IsUtf8-from_is_utf8 (codes "~1") refl
    by false false false = one_char c h

token_utf8 : (k : List ℕ) → IsTrue (all_scalars k) → IsUtf8 (token_text k)
token_utf8 [] h = IsUtf8-nil
token_utf8 (c ∷ cs) h = let p = and_parts _ (all_scalars cs) h in
    IsUtf8-append (token_char c) (token_text cs) (char_text c (and_from _ _ p.0 refl)) (token_utf8 cs p.1)

slash_text : (xs : List ℕ) → IsUtf8 xs → IsUtf8 (solidus ∷ xs)
unfolding is_utf8 chars encode
slash_text xs h = IsUtf8-append (solidus ∷ []) xs (IsUtf8-from_is_utf8 (solidus ∷ []) refl) h

begins_more : (p xs : List ℕ) → begins_pointer p ≡ true → begins_pointer (p ++ solidus ∷ xs) ≡ true
begins_more [] xs h = refl
begins_more (c ∷ p) xs h = h

more : (p xs : List ℕ) → IsPlace p → IsUtf8 xs → IsPlace (p ++ solidus ∷ xs)
more p xs h u = record { text = IsUtf8-append p (solidus ∷ xs) h.text (slash_text xs u); begins = begins_more p xs h.begins }

key_place : (p k : List ℕ) → IsPlace p → IsTrue (all_scalars k) → IsPlace (at_key p k)
key_place p k h s = more p (token_text k) h (token_utf8 k s)

index_place : (p : List ℕ) (i : ℕ) → IsPlace p → IsPlace (at_index p i)
index_place p i h = more p (decimal i) h (digits-IsUtf8 10 false i (omega arith) (omega arith))

-- ---- marks

abbrev ArePlaces : List Marked → Type 0
ArePlaces [] = ⊤
ArePlaces (m ∷ ms) = IsPlace m.2 × ArePlaces ms

both : (ms ns : List Marked) → ArePlaces ms → ArePlaces ns → ArePlaces (ms ++ ns)
both [] ns g h = h
both (m ∷ ms) ns g h = (g.0, both ms ns g.1 h)

resources : (b p : List ℕ) (s : Tree) → IsPlace p → ArePlaces (resource_marks b p s)
resources b p s h = by (is_resource p s)
  where
    by : (x : Bool) → ArePlaces (cond x ((kind.Resource, b, p) ∷ []) [])
    by true = (h, tt)
    by false = tt

names : (k : Kind) (b p : List ℕ) (w : Tree) → IsPlace p → ArePlaces (name_marks k b p w)
names k b p (string cs) h = (h, tt)
names k b p _ h = tt

references : (p : List ℕ) (w : Tree) → IsPlace p → ArePlaces (reference_marks p w)
references p (string cs) h = (h, tt)
references p _ h = tt

by_form : (f : Form) (a b c d e : List Marked) → ArePlaces a → ArePlaces b → ArePlaces c → ArePlaces d → ArePlaces e
    → ArePlaces (marks_by f a b c d e)
by_form form.Anchor a b c d e f g h i j = f
by_form form.Reference a b c d e f g h i j = g
by_form form.Schema a b c d e f g h i j = h
by_form form.Schemas a b c d e f g h i j = i
by_form form.SchemaMap a b c d e f g h i j = j
by_form form.PatternMap a b c d e f g h i j = j
by_form _ a b c d e f g h i j = tt

mutual
  in_schema : (b p : List ℕ) (w : Tree) → IsPlace p → IsTree w → ArePlaces (marks_in b p w)
  in_schema b p (object ms) h s = both (resource_marks (base_in b (object ms)) p (object ms)) (marks_among (base_in b (object ms)) p ms)
      (resources (base_in b (object ms)) p (object ms) h) (among (base_in b (object ms)) p ms h s.0)
  in_schema b p _ h s = tt

  among : (b p : List ℕ) (ms : Members) → IsPlace p → AreMembersAt power_width ms → ArePlaces (marks_among b p ms)
  among b p no_members h s = tt
  among b p (member k w ms) h s = both _ (marks_among b p ms)
      (by_form (form_at (encode_utf8_all k)) _ _ _ _ _ (names (name_kind (encode_utf8_all k)) b p w h) (references p w h)
      (in_schema b (at_key p k) w (key_place p k h s.0) s.1) (in_list b (at_key p k) w (key_place p k h s.0) s.1)
      (in_map b (at_key p k) w (key_place p k h s.0) s.1)) (among b p ms h s.2)

  in_list : (b p : List ℕ) (w : Tree) → IsPlace p → IsTree w → ArePlaces (marks_in_list b p w)
  in_list b p (array ts) h s = of_items b p 0 ts h s
  in_list b p _ h s = tt

  in_map : (b p : List ℕ) (w : Tree) → IsPlace p → IsTree w → ArePlaces (marks_in_map b p w)
  in_map b p (object ms) h s = of_members b p ms h s.0
  in_map b p _ h s = tt

  of_items : (b p : List ℕ) (i : ℕ) (ts : Items) → IsPlace p → AreItemsAt power_width ts → ArePlaces (marks_of_items b p i ts)
  of_items b p i no_items h s = tt
  of_items b p i (item t ts) h s = both (marks_in b (at_index p i) t) (marks_of_items b p (suc i) ts)
      (in_schema b (at_index p i) t (index_place p i h) s.0) (of_items b p (suc i) ts h s.1)

  of_members : (b p : List ℕ) (ms : Members) → IsPlace p → AreMembersAt power_width ms → ArePlaces (marks_of_members b p ms)
  of_members b p no_members h s = tt
  of_members b p (member k t ms) h s = both (marks_in b (at_key p k) t) (marks_of_members b p ms)
      (in_schema b (at_key p k) t (key_place p k h s.0) s.1) (of_members b p ms h s.2)

-- ---- what is looked up

-- what is found is a place
abbrev pub IfPlace : Option (List ℕ) → Type 0
IfPlace None = ⊤
IfPlace (Some p) = IsPlace p

chosen : (x : Bool) (p : List ℕ) (o : Option (List ℕ)) → IsPlace p → IfPlace o → IfPlace (cond x (Some p) o)
chosen true p o h g = h
chosen false p o h g = g

placed : (ms : List Marked) (u : List ℕ) → ArePlaces ms → IfPlace (place_of ms u)
placed [] u h = tt
placed (m ∷ ms) u h = chosen (is_place m.0 && bytes_eq m.1 u) m.2 (place_of ms u) h.0 (placed ms u h.1)

dynamic_placed : (ms : List Marked) (u : List ℕ) → ArePlaces ms → IfPlace (dynamic_place ms u)
dynamic_placed [] u h = tt
dynamic_placed (m ∷ ms) u h = chosen (is_dynamic_at m u) m.2 (dynamic_place ms u) h.0 (dynamic_placed ms u h.1)

module _ (t : Tree) (sound : IsTree t) where
  pub place_found : (u : List ℕ) → IfPlace (place_of (marks_of t) u)
  place_found u = placed (marks_of t) u (in_schema [] [] t root_place sound)

  pub dynamic_found : (u : List ℕ) → IfPlace (dynamic_place (marks_of t) u)
  dynamic_found u = dynamic_placed (marks_of t) u (in_schema [] [] t root_place sound)

-- ---- pointers

abbrev pub AreScalars : List (List ℕ) → Type 0
AreScalars [] = ⊤
AreScalars (k ∷ ks) = IsTrue (all_scalars k) × AreScalars ks

pub after_place : (p : List ℕ) (ks : List (List ℕ)) → IsPlace p → AreScalars ks → IsPlace (place_after p ks)
after_place p [] h s = h
after_place p (k ∷ ks) h s = after_place (at_key p k) ks (key_place p k h s.0) s.1

in_both : (xs ys : List ℕ) → IsTrue (all_scalars (xs ++ ys)) → IsTrue (all_scalars xs) × IsTrue (all_scalars ys)
in_both [] ys h = (refl, h)
in_both (x ∷ xs) ys h =
    let p = and_parts _ (all_scalars (xs ++ ys)) h in
    let q = in_both xs ys p.1 in
    (and_from _ _ p.0 q.0, q.1)

unescaped_char : (c : ℕ) → IsTrue (all_scalars (escape_char c)) → IsTrue (all_scalars (c ∷ []))
unescaped_char c h = by (c == tilde) (c == solidus) refl refl h
  where
    is_char : (d : ℕ) → (c == d) ≡ true → IsTrue (all_scalars (d ∷ [])) → IsTrue (all_scalars (c ∷ []))
    is_char d e s = subst (λ x. IsTrue (all_scalars (x ∷ []))) (sym (eqb-true c d e)) s

    by : (x y : Bool) → (c == tilde) ≡ x → (c == solidus) ≡ y
        → IsTrue (all_scalars (cond x (codes "~0") (cond y (codes "~1") (c ∷ [])))) → IsTrue (all_scalars (c ∷ []))
    by true y e f s = is_char tilde e refl
    by false true e f s = is_char solidus f refl
    by false false e f s = s

unescaped : (k : List ℕ) → IsTrue (all_scalars (escape k)) → IsTrue (all_scalars k)
unescaped [] h = refl
unescaped (c ∷ cs) h =
    let p = in_both (escape_char c) (escape cs) h in
    let q = and_parts _ (all_scalars []) (unescaped_char c p.0) in
    and_from _ _ q.0 (unescaped cs p.1)

pub tokens_scalars : (ks : List (List ℕ)) → IsTrue (all_scalars (pointer_text ks)) → AreScalars ks
tokens_scalars [] h = tt
tokens_scalars (k ∷ ks) h =
    let p = and_parts (scalar solidus) (all_scalars (escape k ++ pointer_text ks)) h in
    let q = in_both (escape k) (pointer_text ks) p.1 in
    (unescaped k q.0, tokens_scalars ks q.1)

below_place : (p ds : List ℕ) → IsPlace p → IsUtf8 ds → IfPlace (place_below p ds)
below_place p ds h u = by (bytes_eq (pointer_text tokens) (chars ds)) refl
  where
    tokens : List (List ℕ)
    tokens = (split false (chars ds)).1

    by : (x : Bool) → bytes_eq (pointer_text (split false (chars ds)).1) (chars ds) ≡ x
        → IfPlace (option_map (place_after p) (cond x (Some (split false (chars ds)).1) None))
    by true e = after_place p (split false (chars ds)).1 h (tokens_scalars (split false (chars ds)).1
        (subst (λ xs. IsTrue (all_scalars xs)) (sym ((bytes_eq-Decides (pointer_text (split false (chars ds)).1) (chars ds)).0 e))
        (scalars-chars ds u)))
    by false e = tt

-- ---- the first place to which a URI leads

module _ (to : Leads) (found : (u : List ℕ) → IfPlace (to.0 u)) (named : (b u n : List ℕ)
    → IfPlace (to.1 b u n)) (dynamic : Bool) (b t : List ℕ)
  where
    below_some : (o : Option (List ℕ)) (ds : List ℕ) → IfPlace o → IsUtf8 ds → IfPlace (option_and_then (λ p. place_below p ds) o)
    below_some None ds h u = tt
    below_some (Some p) ds h u = below_place p ds h u

    either : (x : Bool) (o q : Option (List ℕ)) → IfPlace o → IfPlace q → IfPlace (cond x o q)
    either true o q h g = h
    either false o q h g = g

    decoded_place : (ds : List ℕ) → IfPlace (leads_by to dynamic b (without_fragment t) ds)
    decoded_place ds = by (is_utf8 ds) refl
      where
        by : (x : Bool) → is_utf8 ds ≡ x → IfPlace (cond x (leads_in to dynamic b (without_fragment t) ds) None)
        by true e = either (begins_pointer ds) _ _ (below_some (to.0 (without_fragment t)) ds (found (without_fragment t))
            (IsUtf8-from_is_utf8 ds e))
            (either dynamic _ _ (named b (without_fragment t) ds) (found (with_name (without_fragment t) ds)))
        by false e = tt

    pub first_found : IfPlace (first_place to dynamic b t)
    first_found = by (percent_decoded (unwrap_or (fragment_of t) []))
      where
        by : (o : Option (List ℕ)) → IfPlace (option_and_then (leads_by to dynamic b (without_fragment t)) o)
        by None = tt
        by (Some ds) = decoded_place ds
