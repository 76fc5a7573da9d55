-- The place that is returned.
use Rattle.std.proofs.Common.{◌≡◌, ℕ, ◌+◌, ◌-◌, ◌≤◌, false, ◌==◌, List, [], ◌∷◌, ◌++◌, length, take, Option, Some}
use Rattle.std.proofs.Common.{None, option_map}
use Rattle.std.proofs.Common.{refl, sym, ap, ◌∙◌, subst, append_assoc, arith, length-append, encode_utf8_all, Result, Ok, Err}
use Rattle.std.proofs.Math.Seq.{take-append_seam}
use Rattle.std.proofs.lemmas.Bool.Decides.{nat_tests}
use Rattle.std.proofs.lemmas.List.{append_cancel_right}
use Rattle.std.proofs.lemmas.Str.{encodes-append, encodes-chars, IsCharBoundary-at_seam, IsUtf8-take, chars-append}
use Rattle.std.specs.Prelude.{IfSome}
use Rattle.std.specs.Result.{IsErrAnd}
use Rattle.std.specs.Str.{IsUtf8, IsCharBoundary, chars}
use Rattle.tinyjson.specs.declared.parser.error.JsonParseError.{JsonParseError}
use Rattle.tinyjson_grammar.proofs.Callers.{advance_append}
use Rattle.tinyjson_grammar.proofs.Callers.Laws.{begins_append, text_begins}
use Rattle.tinyjson_grammar.specs.Characters.{is_white}
use Rattle.tinyjson_grammar.specs.Grammar.{IsLoose}
use Rattle.tinyjson_grammar.specs.Position.{position_at, origin, advance, capped}
use Rattle.tinyjson_grammar.specs.Syntax.{Syntax, text, IsSpelled, IsStrict}
use Rattle.tinyjson_pointer.specs.Spots.{Spot}
use Rattle.tinyjson_pointer.specs.Places.{named, HasNone, IsPlaceOf, Locates}
use Rattle.tinyjson_pointer.specs.declared.place.Place.{Place}
use Rattle.tinyjson_pointer.specs.private.Parts.{begun, next_column, IsBefore}
use Rattle.tinyjson_pointer.specs.private.Scan.{without_white}
use Rattle.tinyjson_pointer.proofs.Locating.Finding.{white_off}
use Rattle.tinyjson_pointer.proofs.Locating.Parts.{IsPart, spot_tree, named_has, named_tree}

-- ---- the bytes of the front

pub end_bytes : (bs ds front : List ℕ) → IsUtf8 bs → IsUtf8 ds → chars bs ≡ front ++ chars ds → bs ≡ encode_utf8_all front ++ ds
end_bytes bs ds front u v h = sym (encodes-chars bs u) ∙ (ap encode_utf8_all h ∙ (encodes-append front (chars ds)
    ∙ ap (λ zs. encode_utf8_all front ++ zs) (encodes-chars ds v)))

pub end_offset : (bs ds front : List ℕ) → IsUtf8 bs → IsUtf8 ds → chars bs ≡ front ++ chars ds
    → length bs ≡ length (encode_utf8_all front) + length ds
end_offset bs ds front u v h = ap length (end_bytes bs ds front u v h) ∙ length-append (encode_utf8_all front) ds

end_length : (bs ds front : List ℕ) → IsUtf8 bs → IsUtf8 ds → chars bs ≡ front ++ chars ds
    → length (encode_utf8_all front) ≡ length bs - length ds
end_length bs ds front u v h = let e = end_offset bs ds front u v h in omega arith

pub end_boundary : (bs ds front : List ℕ) → IsUtf8 bs → IsUtf8 ds → chars bs ≡ front ++ chars ds
    → IsCharBoundary bs (length bs - length ds)
end_boundary bs ds front u v h = subst (IsCharBoundary bs) (end_length bs ds front u v h)
    (IsCharBoundary-at_seam bs (encode_utf8_all front) ds (end_bytes bs ds front u v h) v)

pub front_chars : (bs ds front : List ℕ) → IsUtf8 bs → IsUtf8 ds → chars bs ≡ front ++ chars ds
    → chars (take (length bs - length ds) bs) ≡ front
front_chars bs ds front u v h =
    let n = length bs - length ds in
    let f = encode_utf8_all front in
    let whole = end_bytes bs ds front u v h in
    let is : take n bs ≡ f = ap (λ m. take m bs) (sym (end_length bs ds front u v h))
    ∙ (ap (take (length f)) whole ∙ take-append_seam f ds) in
    let w : IsUtf8 f = subst IsUtf8 is (IsUtf8-take bs n u (end_boundary bs ds front u v h)) in
    ap chars is ∙ append_cancel_right (chars f) front (chars ds) (sym (chars-append f ds w) ∙ (ap chars (sym whole) ∙ h))

pub front_place : (bs ds front : List ℕ) (line column last : ℕ) → IsUtf8 bs → IsUtf8 ds → chars bs ≡ front ++ chars ds
    → last ≡ capped (column + 1) → position_at line column ≡ advance origin (chars (take (length bs - length ds) bs))
    → (length bs - length ds ≡ length (encode_utf8_all front)) × (position_at line last ≡ next_column (advance origin front))
front_place bs ds front line column last u v h d p =
    let q : position_at line column ≡ advance origin front = p ∙ ap (advance origin) (front_chars bs ds front u v h) in (
      sym (end_length bs ds front u v h),
      ap (position_at line) d ∙ ap next_column q,
    )

-- ---- the first character

one_further : (l k : ℕ) (c : ℕ) → l ≤ 18446744073709551615 → (c == 10) ≡ false
    → advance (position_at l k) (c ∷ []) ≡ position_at l (capped (k + 1))
unfolding advance
one_further l k c h e = grind (arith, nat_tests)

no_feed : (c : ℕ) → is_white c ≡ false → (c == 10) ≡ false
no_feed c h = grind (arith, nat_tests)

line_capped : (xs : List ℕ) → (advance origin xs).line ≤ 18446744073709551615
unfolding advance
line_capped xs = omega arith

pub first_position : (front : List ℕ) (s : Syntax) → IsSpelled s
    → next_column (advance origin front) ≡ advance origin (front ++ take 1 (text s))
first_position front s h =
    let b = text_begins s h in
    let one : take 1 (text s) ≡ b.0 ∷ [] = ap (take 1) b.2 in
    let p = advance origin front in
    sym (one_further p.line p.column b.0 (line_capped front) (no_feed b.0 b.3.0))
    ∙ (advance_append origin front (b.0 ∷ []) ∙ ap (λ xs. advance origin (front ++ xs)) (sym one))

-- ---- the answer

whole_text : (l b t a r : List ℕ) → l ++ ((b ++ (t ++ a)) ++ r) ≡ (l ++ b) ++ (t ++ (a ++ r))
whole_text l b t a r = simp append_assoc

-- no part has that name
pub none_named : (xs : List ℕ) (l : IsLoose None xs) (ks : List (List ℕ)) → IsStrict l.value
    → None ≡ option_map (begun l.after) (named l.value ks) → HasNone xs l ks
none_named xs l ks z h =
    let none : named l.value ks ≡ None = no_spot (named l.value ks) h in
    (none, sym (named_tree ks l.value) ∙ ap (option_map spot_tree) none)
  where
    no_spot : (o : Option Spot) → None ≡ option_map (begun l.after) o → o ≡ None
    no_spot None h = refl
    no_spot (Some p) h = cc

-- the spot at which the end of the text begins
pub record Found (xs : List ℕ) (l : IsLoose None xs) (ks : List (List ℕ)) (ys : List ℕ) : Type 0 where
  pub spot : Spot
  pub named : named l.value ks ≡ Some spot
  pub part : IsPart (text l.value) spot
  pub end : ys ≡ begun l.after spot
  pub whole : xs ≡ (l.before ++ spot.before) ++ ys

pub some_named : (xs : List ℕ) (l : IsLoose None xs) (ks : List (List ℕ)) (ys : List ℕ) → IsStrict l.value
    → Some ys ≡ option_map (begun l.after) (named l.value ks) → Found xs l ks ys
some_named xs l ks ys z h = by (named l.value ks) refl (named_has ks l.value l.spelled z) h
  where
    by : (o : Option Spot) → named l.value ks ≡ o → IfSome o (IsPart (text l.value)) → Some ys ≡ option_map (begun l.after) o
        → Found xs l ks ys
    by None e g h = cc
    by (Some p) e g h =
        let end : ys ≡ begun l.after p = cc in
        record {
          spot = p;
          named = e;
          part = g;
          end = end;
          whole = l.whole ∙ (ap (λ zs. l.before ++ (zs ++ l.after)) g.whole
              ∙ (whole_text l.before p.before (text p.part) p.behind l.after ∙ ap (λ zs. (l.before ++ p.before) ++ zs) (sym end)));
        }

pub placed : (xs : List ℕ) (l : IsLoose None xs) (ks : List (List ℕ)) (ys : List ℕ) (place : Place) (f : Found xs l ks ys)
    → IsBefore (l.before ++ f.spot.before) place → (p : Spot) × IsPlaceOf xs l ks place p
placed xs l ks ys place f b = (
  f.spot,
  record {
    named = f.named;
    whole = f.whole ∙ ap (λ zs. (l.before ++ f.spot.before) ++ zs) f.end;
    tree = sym (named_tree ks l.value) ∙ ap (option_map spot_tree) f.named;
    offset = b.0;
    position = b.1 ∙ first_position (l.before ++ f.spot.before) f.spot.part f.part.spelled;
  },
)

-- the value follows the white space
pub value_here : (xs : List ℕ) (l : IsLoose None xs) → without_white xs ≡ text l.value ++ l.after
value_here xs l = ap without_white l.whole
    ∙ white_off l.before (text l.value ++ l.after) l.white_before (begins_append (text l.value) l.after (text_begins l.value l.spelled))

-- an error that is passed on
pub locates_back : (xs : List ℕ) (ks : List (List ℕ)) (result : Result (Option Place) JsonParseError) (e : JsonParseError)
    → IsErrAnd result (λ d. d ≡ e) → Locates xs ks (Err e) → Locates xs ks result
locates_back xs ks (Ok x) e h k = absurd h
locates_back xs ks (Err d) e h k = subst (λ x. Locates xs ks (Err x)) (sym h) k
