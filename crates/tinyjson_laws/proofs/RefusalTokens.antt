-- The machine goes over a token that was begun, to where it stops.
use Rattle.std.proofs.Common.{zero, suc, ◌≡◌, ℕ, ◌<◌, ◌≤◌, Bool, true, false, List, [], ◌∷◌, ◌++◌, Option, Some, None, refl, ap, sym, ◌∙◌}
use Rattle.std.proofs.Common.{cond, append_assoc, append-nil, arith, length, subst, ◌⊎◌, inl, inr, ⊎_elim, IsTrue, ◌==◌, ◌&&◌, ◌||◌, not}
use Rattle.std.proofs.Common.{take}
use Rattle.std.specs.Prelude.{codes, slice_index, unwrap_or}
use Rattle.std.specs.Char.{is_ascii_digit}
use Rattle.std.proofs.lemmas.Bool.{and_parts, or_parts, not-true, cases_Bool, eqb-true, eq-eqb, ne_eqb, lt-ltb}
use Rattle.tinyjson_grammar.specs.Characters.{is_hex, short_escape, decode, paired, is_surrogate, is_high, is_low}
use Rattle.tinyjson_grammar.specs.Prefix.{IsErrorFree}
use Rattle.tinyjson_grammar.specs.Machine
use Rattle.tinyjson_grammar.specs.Machine.{Rules, strictly, Frame, awaited, digits, quoted, refused, step_escape, step_digits, go_on, step}
use Rattle.tinyjson_grammar.specs.Machine.{run, end, with_exponent, with_sign}
use Rattle.tinyjson_grammar.specs.Refusal.{IsLiteral, IsHex, AreUnits, EndsRun, BeginsEscape, BeginsWithNone}
use Rattle.tinyjson_grammar.specs.Tree.{Tree, null, boolean}
use Rattle.tinyjson_grammar.specs.Syntax.{Piece, plain, escape, unit, IsPiece, ArePieces, pieces_text, piece_codes, unit_value}
use Rattle.tinyjson_number.specs.Numeral.{numeral, Numeral, Exponent, IsNumeral, AreDigits, is_exponent_letter, is_sign, has_leading_zero}
use Rattle.tinyjson_number.specs.Numeral.{minus_text, fraction_text, spelling}
use Rattle.tinyjson_grammar.specs.declared.error.JsonParseErrorKind.TheVariants.{UnexpectedEof, InvalidUtf16, InvalidHexDigit}
use Rattle.tinyjson_grammar.specs.declared.error.JsonParseErrorKind.TheVariants.{InvalidEscape, ControlCharacter, UnexpectedInLiteral}
use Rattle.tinyjson_grammar.specs.declared.error.JsonParseErrorKind.TheVariants.{EmptyInteger, LeadingZero, EmptyFraction, EmptyExponent}
use Rattle.tinyjson_grammar.proofs.Callers.{ranges, letter_no_digit, letter_no_point, sign_no_digit}
use Rattle.tinyjson_grammar.proofs.Callers.Laws.{run_integer, run_spelling, last_stage, stage_of, Path, path_text, path_frames, IsPath}
use Rattle.tinyjson_grammar.proofs.Callers.Laws.{paired_cons, paired_append, scalar_no_surrogate, escape_no_surrogate, some_unwrap}
use Rattle.tinyjson_grammar.proofs.Callers.Laws.{plain_no_quote, plain_no_backslash, plain_no_control, error_free_point, error_free_letter}

differs : (c n : ℕ) → (n ≡ c → ⊥) → (c == n) ≡ false
differs c n h = ne_eqb c n (λ e. h (sym e))

-- ---- a literal

-- among the letters that are left of a literal
stops_in : (r : Rules) (fs : List Frame) (ls : List ℕ) (t : Tree) (n c : ℕ) (rest : List ℕ) → n < length ls → (slice_index ls n ≡ c → ⊥)
    → run r fs (Machine.literal ls t) ((take n ls ++ c ∷ []) ++ rest) ≡ refused (UnexpectedInLiteral c) rest
unfolding run step
stops_in r fs [] t n c rest h m = absurd (omega arith)
stops_in r fs (l ∷ []) t zero c rest h m = rw (differs c l m) refl
stops_in r fs (l ∷ []) t (suc n) c rest h m = absurd (omega arith)
stops_in r fs (l ∷ k ∷ ls) t zero c rest h m = rw (differs c l m) refl
stops_in r fs (l ∷ k ∷ ls) t (suc n) c rest h m = rw (eq-eqb l l refl) (stops_in r fs (k ∷ ls) t n c rest (omega (arith, h)) m)

ends_in : (r : Rules) (fs : List Frame) (ls : List ℕ) (t : Tree) (n : ℕ) → n < length ls
    → run r fs (Machine.literal ls t) (take n ls) ≡ refused UnexpectedEof []
unfolding run step end
ends_in r fs [] t n h = absurd (omega arith)
ends_in r fs (l ∷ ls) t zero h = refl
ends_in r fs (l ∷ []) t (suc n) h = absurd (omega arith)
ends_in r fs (l ∷ k ∷ ls) t (suc n) h = rw (eq-eqb l l refl) (ends_in r fs (k ∷ ls) t n (omega (arith, h)))

pub literal_stops : (r : Rules) (fs : List Frame) (l : List ℕ) (n c : ℕ) (rest : List ℕ) → IsLiteral l → 0 < n → n < length l
    → (slice_index l n ≡ c → ⊥) →
    run r fs awaited ((take n l ++ c ∷ []) ++ rest) ≡ refused (UnexpectedInLiteral c) rest
unfolding run step
literal_stops r fs l zero c rest i h = absurd (omega arith)
literal_stops r fs l (suc n) c rest (inl e) h = rw e (λ k m. stops_in r fs (codes "ull") null n c rest (omega (arith, k)) m)
literal_stops r fs l (suc n) c rest (inr (inl e)) h = rw e (λ k m. stops_in r fs (codes "rue") (boolean true) n c rest (omega (arith, k)) m)
literal_stops r fs l (suc n) c rest (inr (inr e)) h =
    rw e (λ k m. stops_in r fs (codes "alse") (boolean false) n c rest (omega (arith, k)) m)

pub literal_ends : (r : Rules) (fs : List Frame) (l : List ℕ) (n : ℕ) → IsLiteral l → 0 < n → n < length l
    → run r fs awaited (take n l) ≡ refused UnexpectedEof []
unfolding run step
literal_ends r fs l zero i h = absurd (omega arith)
literal_ends r fs l (suc n) (inl e) h = rw e (λ k. ends_in r fs (codes "ull") null n (omega (arith, k)))
literal_ends r fs l (suc n) (inr (inl e)) h = rw e (λ k. ends_in r fs (codes "rue") (boolean true) n (omega (arith, k)))
literal_ends r fs l (suc n) (inr (inr e)) h = rw e (λ k. ends_in r fs (codes "alse") (boolean false) n (omega (arith, k)))

-- ---- a string

-- what is paired takes no partner from what comes after it
paired_front : (us vs : List ℕ) → IsTrue (paired us) → paired (us ++ vs) ≡ paired vs
paired_front [] vs h = refl
paired_front (u ∷ []) vs h = paired_cons u vs (not-true (is_surrogate u) h)
paired_front (u ∷ v ∷ us) vs h = split (is_high u && is_low v) h (λ g. paired_front us vs g) (λ g. paired_front (v ∷ us) vs g)
  where
    split : (b : Bool) → IsTrue (cond b (paired us) (not (is_surrogate u) && paired (v ∷ us)))
        → (IsTrue (paired us) → paired (us ++ vs) ≡ paired vs) → (IsTrue (paired (v ∷ us)) → paired (v ∷ us ++ vs) ≡ paired vs) →
        cond b (paired (us ++ vs)) (not (is_surrogate u) && paired (v ∷ us ++ vs)) ≡ paired vs
    split true g f k = f g
    split false g f k = let p = and_parts (not (is_surrogate u)) (paired (v ∷ us)) g in rw p.0 (k p.1)

paired_parts : (us : List ℕ) (c : ℕ) (vs : List ℕ) → is_surrogate c ≡ false → IsTrue (paired (us ++ c ∷ vs))
    → IsTrue (paired us) × IsTrue (paired vs)
paired_parts us c vs n h = and_parts (paired us) (paired vs) (sym (paired_append us c vs n) ∙ h)

-- the state after pieces
abbrev Opens : Rules → List Frame → List ℕ → List ℕ → List Piece → Type 0
Opens r fs cs us ps = (ds vs : List ℕ) × IsTrue (paired vs)
    × ((xs : List ℕ) → run r fs (quoted Machine.plain cs us) (pieces_text ps ++ xs) ≡ run r fs (quoted Machine.plain ds vs) xs)

open_pieces : (limit : Option ℕ) (fs : List Frame) (cs us : List ℕ) (ps : List Piece) → ArePieces ps
    → IsTrue (paired (us ++ piece_codes ps)) → Opens (strictly limit) fs cs us ps
unfolding run step
open_pieces limit fs cs us [] h i = (cs, us, subst (λ vs. IsTrue (paired vs)) (append-nil us) i, λ xs. refl)
open_pieces limit fs cs us (plain c ∷ ps) h i =
    let n = scalar_no_surrogate c h.0.0 in
    let g = paired_parts us c (piece_codes ps) n i in
    let o = open_pieces limit fs ((cs ++ decode us) ++ c ∷ []) [] ps h.1 g.1 in
    (o.0, o.1, o.2, λ xs. rw (plain_no_quote c h.0.2, plain_no_backslash c h.0.2, plain_no_control c h.0.1, g.0) (o.3 xs))
open_pieces limit fs cs us (escape c ∷ ps) h i =
    let e = some_unwrap (short_escape c) h.0 in
    let d = unwrap_or (short_escape c) 0 in
    let n = escape_no_surrogate c d e in
    let g = paired_parts us d (piece_codes ps) n i in
    let o = open_pieces limit fs ((cs ++ decode us) ++ d ∷ []) [] ps h.1 g.1 in (
      o.0,
      o.1,
      o.2,
      λ xs. ap (λ x. go_on (λ gs q. run (strictly limit) gs q (pieces_text ps ++ xs))
          (step_escape (strictly limit) fs cs us c x) (c ∷ (pieces_text ps ++ xs)) (pieces_text ps ++ xs)) e ∙ rw g.0 (o.3 xs),
    )
open_pieces limit fs cs us (unit a b c d ∷ ps) h i =
    let u = unit_value a b c d in
    let o = open_pieces limit fs cs (us ++ u ∷ []) ps h.1 (rw (append_assoc us (u ∷ []) (piece_codes ps)) i) in
    (o.0, o.1, o.2, λ xs. rw (h.0.0, h.0.1, h.0.2, h.0.3) (o.3 xs))

open_units : (r : Rules) (fs : List Frame) (cs us : List ℕ) (ps : List Piece) → AreUnits ps → (xs : List ℕ)
    → run r fs (quoted Machine.plain cs us) (pieces_text ps ++ xs) ≡ run r fs (quoted Machine.plain cs (us ++ piece_codes ps)) xs
unfolding run step
open_units r fs cs us [] h xs = rw (append-nil us) refl
open_units r fs cs us (unit a b c d ∷ ps) h xs =
    let u = unit_value a b c d in
    rw (h.0.0, h.0.1, h.0.2, h.0.3) (open_units r fs cs (us ++ u ∷ []) ps h.1 xs
    ∙ ap (λ vs. run r fs (quoted Machine.plain cs vs) xs) (append_assoc us (u ∷ []) (piece_codes ps)))
open_units r fs cs us _ h xs = elim h [ ]

-- the state after a string that was begun
abbrev pub StringOpens : Option ℕ → List Frame → List Piece → List Piece → Type 0
StringOpens limit fs ps qs = (ds vs : List ℕ) × IsTrue (paired vs) × ((xs : List ℕ)
    → run (strictly limit) fs awaited (34 ∷ (pieces_text ps ++ (pieces_text qs ++ xs)))
    ≡ run (strictly limit) fs (quoted Machine.plain ds (vs ++ piece_codes qs)) xs)

pub string_opens : (limit : Option ℕ) (fs : List Frame) (ps qs : List Piece) → ArePieces ps → IsTrue (paired (piece_codes ps))
    → AreUnits qs → StringOpens limit fs ps qs
unfolding run step
string_opens limit fs ps qs h i j =
    let o = open_pieces limit fs [] [] ps h i in
    (o.0, o.1, o.2, λ xs. o.3 (pieces_text qs ++ xs) ∙ open_units (strictly limit) fs o.0 o.1 qs j xs)

module _ (r : Rules) (fs : List Frame) (cs us : List ℕ) where
  pub control_stops : (c : ℕ) (rest : List ℕ) → c < 32
      → run r fs (quoted Machine.plain cs us) (c ∷ rest) ≡ refused (ControlCharacter c) rest
  unfolding run step
  control_stops c rest h = rw (ne_eqb c 34 (λ e. omega arith), ne_eqb c 92 (λ e. omega arith), lt-ltb c 32 h) refl

  pub escape_stops : (c : ℕ) (rest : List ℕ) → short_escape c ≡ None → (c ≡ 117 → ⊥)
      → run r fs (quoted Machine.plain cs us) (92 ∷ c ∷ rest) ≡ refused (InvalidEscape c) rest
  unfolding run step
  escape_stops c rest e h = ap (λ x. go_on (λ gs q. run r gs q rest) (step_escape r fs cs us c x) (c ∷ rest) rest) e
      ∙ rw (ne_eqb c 117 h) refl

  pub hex_stops : (ds : List ℕ) (c : ℕ) (rest : List ℕ) → length ds ≤ 3 → IsHex ds → is_hex c ≡ false
      → run r fs (quoted Machine.plain cs us) (92 ∷ 117 ∷ (ds ++ c ∷ rest)) ≡ refused (InvalidHexDigit c) rest
  unfolding run step
  hex_stops [] c rest h i e = rw e refl
  hex_stops (x ∷ []) c rest h i e = rw (i.0, e) refl
  hex_stops (x ∷ y ∷ []) c rest h i e = rw (i.0, i.1.0, e) refl
  hex_stops (x ∷ y ∷ z ∷ []) c rest h i e = rw (i.0, i.1.0, i.1.1.0, e) refl
  hex_stops (x ∷ y ∷ z ∷ w ∷ ds) c rest h i e = absurd (omega (arith, h))

  pub escape_ends : (e : List ℕ) → BeginsEscape e → run r fs (quoted Machine.plain cs us) e ≡ refused UnexpectedEof []
  unfolding run step end
  escape_ends e (inl g) = rw g refl
  escape_ends e (inr (inl g)) = rw g refl
  escape_ends e (inr (inr (ds, h, i, g))) = rw g (hex_ends ds h i)
    where
      hex_ends : (ds : List ℕ) → length ds ≤ 3 → IsHex ds → run r fs (quoted Machine.plain cs us) (92 ∷ 117 ∷ ds) ≡ refused UnexpectedEof []
      hex_ends [] h i = refl
      hex_ends (x ∷ []) h i = rw i.0 refl
      hex_ends (x ∷ y ∷ []) h i = rw (i.0, i.1.0) refl
      hex_ends (x ∷ y ∷ z ∷ []) h i = rw (i.0, i.1.0, i.1.1.0) refl
      hex_ends (x ∷ y ∷ z ∷ w ∷ ds) h i = absurd (omega (arith, h))

-- a run of escapes with a surrogate that has no partner
module _ (limit : Option ℕ) (fs : List Frame) (cs us : List ℕ) (h : paired us ≡ false) where
  quote_stops : (rest : List ℕ) → run (strictly limit) fs (quoted Machine.plain cs us) (34 ∷ rest) ≡ refused InvalidUtf16 rest
  unfolding run step
  quote_stops rest = rw h refl

  piece_stops : (p : Piece) (rest : List ℕ) → IsPiece p → ¬ AreUnits (p ∷ [])
      → run (strictly limit) fs (quoted Machine.plain cs us) (pieces_text (p ∷ []) ++ rest) ≡ refused InvalidUtf16 rest
  unfolding run step
  piece_stops (plain c) rest i n = rw (plain_no_quote c i.2, plain_no_backslash c i.2, plain_no_control c i.1, h) refl
  piece_stops (escape c) rest i n = ap (λ x. go_on (λ gs q. run (strictly limit) gs q rest) (step_escape (strictly limit) fs cs us c x)
      (c ∷ rest) rest) (some_unwrap (short_escape c) i) ∙ rw h refl
  piece_stops (unit a b c d) rest i n = absurd (n (i, tt))

  pub run_stops : (e rest : List ℕ) → EndsRun e → run (strictly limit) fs (quoted Machine.plain cs us) (e ++ rest)
      ≡ refused InvalidUtf16 rest
  run_stops e rest (inl g) = rw g (quote_stops rest)
  run_stops e rest (inr (p, i, g, n)) = rw g (piece_stops p rest i n)

pub unpaired_after : (vs us : List ℕ) → IsTrue (paired vs) → paired us ≡ false → paired (vs ++ us) ≡ false
unpaired_after vs us h i = paired_front vs us h ∙ i

-- ---- a number

module _ (r : Rules) (fs : List Frame) where
  pub minus_stops : (rest : List ℕ) → BeginsWithNone is_ascii_digit rest → run r fs awaited (45 ∷ rest) ≡ refused EmptyInteger rest
  unfolding run step end
  minus_stops [] h = refl
  minus_stops (c ∷ cs) h = rw h refl

  point_stops : (n : Numeral) (rest : List ℕ) → BeginsWithNone is_ascii_digit rest
      → run r fs (digits Machine.point n) rest ≡ refused EmptyFraction rest
  unfolding run step end
  point_stops n [] h = refl
  point_stops n (c ∷ cs) h = rw h refl

  letter_stops : (n : Numeral) (rest : List ℕ) → BeginsWithNone (λ c. is_ascii_digit c || is_sign c) rest
      → run r fs (digits Machine.letter n) rest ≡ refused EmptyExponent rest
  unfolding run step end
  letter_stops n [] h = refl
  letter_stops n (c ∷ cs) h = let p = or_parts (is_ascii_digit c) (is_sign c) h in rw (p.0, p.1) refl

  sign_stops : (n : Numeral) (rest : List ℕ) → BeginsWithNone is_ascii_digit rest
      → run r fs (digits Machine.sign n) rest ≡ refused EmptyExponent rest
  unfolding run step end
  sign_stops n [] h = refl
  sign_stops n (c ∷ cs) h = rw h refl

  letter_signed : (n : Numeral) (s : ℕ) (rest : List ℕ) → IsTrue (is_sign s)
      → run r fs (digits Machine.letter n) (s ∷ rest) ≡ run r fs (digits Machine.sign (with_sign n s)) rest
  unfolding run step
  letter_signed n s rest h = rw (sign_no_digit s h, h) refl

pub has_some_digit : (xs : List ℕ) → IsTrue (has_leading_zero xs) → 0 < length xs
has_some_digit [] g = absurd cc
has_some_digit (x ∷ xs) g = omega arith

module _ (limit : Option ℕ) (fs : List Frame) where
  zero_after : (b : Bool) (ds rest : List ℕ) → IsTrue (has_leading_zero ds) → BeginsWithNone is_ascii_digit rest
      → run (strictly limit) fs (digits Machine.integer (numeral b ds [] None)) rest ≡ refused LeadingZero rest
  unfolding run step end
  zero_after b ds [] h g = rw h refl
  zero_after b ds (c ∷ cs) h g = rw (g, h) refl

  point_goes : (b : Bool) (ds rest : List ℕ) → has_leading_zero ds ≡ false
      → run (strictly limit) fs (digits Machine.integer (numeral b ds [] None)) (46 ∷ rest)
      ≡ run (strictly limit) fs (digits Machine.point (numeral b ds [] None)) rest
  unfolding run step
  point_goes b ds rest z = rw z refl

  pub zero_stops : (b : Bool) (ds rest : List ℕ) → IsTrue (has_leading_zero ds) → AreDigits ds → BeginsWithNone is_ascii_digit rest
      → run (strictly limit) fs awaited ((minus_text b ++ ds) ++ rest) ≡ refused LeadingZero rest
  zero_stops b ds rest h i e = rw (append_assoc (minus_text b) ds rest) (run_integer (strictly limit) fs b ds rest i (has_some_digit ds h)
      ∙ zero_after b ds rest h e)

  -- the letter of an exponent after a number without one
  letter_goes : (b : Bool) (ds f : List ℕ) (l : ℕ) (xs : List ℕ) → has_leading_zero ds ≡ false → IsTrue (is_exponent_letter l) →
      run (strictly limit) fs (digits (stage_of f None) (numeral b ds f None)) (l ∷ xs)
      ≡ run (strictly limit) fs (digits Machine.letter (with_exponent (numeral b ds f None) l)) xs
  unfolding run step
  letter_goes b ds [] l xs z h = rw (letter_no_digit l h, z, letter_no_point l h, h) refl
  letter_goes b ds (x ∷ f) l xs z h = rw (letter_no_digit l h, h) refl

  plain_numeral : (b : Bool) (ds f : List ℕ) → AreDigits ds → 0 < length ds → AreDigits f → IsNumeral (numeral b ds f None)
  plain_numeral b ds f h i j = record { integer = h; some_digit = i; fraction = j; exponent = tt }

  to_letter : (b : Bool) (ds f : List ℕ) (l : ℕ) (xs : List ℕ) → AreDigits ds → 0 < length ds → has_leading_zero ds ≡ false → AreDigits f
      → IsTrue (is_exponent_letter l) → run (strictly limit) fs awaited (minus_text b ++ (ds ++ (fraction_text f ++ l ∷ xs)))
      ≡ run (strictly limit) fs (digits Machine.letter (with_exponent (numeral b ds f None) l)) xs
  to_letter b ds f l xs h i z j k =
      ap (run (strictly limit) fs awaited) (regroup (minus_text b) ds (fraction_text f) (l ∷ xs))
      ∙ (run_spelling (strictly limit) fs (numeral b ds f None) (l ∷ xs) (plain_numeral b ds f h i j) z ∙ letter_goes b ds f l xs z k)
    where
      regroup : (m w g ys : List ℕ) → m ++ (w ++ (g ++ ys)) ≡ (m ++ (w ++ (g ++ []))) ++ ys
      regroup m w g ys = simp (append_assoc, append-nil)

  pub fraction_stops : (b : Bool) (ds rest : List ℕ) → AreDigits ds → 0 < length ds → has_leading_zero ds ≡ false
      → BeginsWithNone is_ascii_digit rest →
      run (strictly limit) fs awaited ((minus_text b ++ (ds ++ 46 ∷ [])) ++ rest) ≡ refused EmptyFraction rest
  fraction_stops b ds rest h i z e = rw (regroup (minus_text b) ds rest) (run_integer (strictly limit) fs b ds (46 ∷ rest) h i
      ∙ (point_goes b ds rest z ∙ point_stops (strictly limit) fs (numeral b ds [] None) rest e))
    where
      regroup : (m w ys : List ℕ) → (m ++ (w ++ 46 ∷ [])) ++ ys ≡ m ++ (w ++ 46 ∷ ys)
      regroup m w ys = simp append_assoc

  pub exponent_stops : (b : Bool) (ds f : List ℕ) (l : ℕ) (rest : List ℕ) → AreDigits ds → 0 < length ds → has_leading_zero ds ≡ false
      → AreDigits f → IsTrue (is_exponent_letter l) → BeginsWithNone (λ c. is_ascii_digit c || is_sign c) rest →
      run (strictly limit) fs awaited ((minus_text b ++ (ds ++ (fraction_text f ++ l ∷ []))) ++ rest) ≡ refused EmptyExponent rest
  exponent_stops b ds f l rest h i z j k e = rw (regroup (minus_text b) ds (fraction_text f) rest) (to_letter b ds f l rest h i z j k
      ∙ letter_stops (strictly limit) fs (with_exponent (numeral b ds f None) l) rest e)
    where
      regroup : (m w g ys : List ℕ) → (m ++ (w ++ (g ++ l ∷ []))) ++ ys ≡ m ++ (w ++ (g ++ l ∷ ys))
      regroup m w g ys = simp append_assoc

  pub signed_stops : (b : Bool) (ds f : List ℕ) (l s : ℕ) (rest : List ℕ) → AreDigits ds → 0 < length ds → has_leading_zero ds ≡ false
      → AreDigits f → IsTrue (is_exponent_letter l) → IsTrue (is_sign s) → BeginsWithNone is_ascii_digit rest →
      run (strictly limit) fs awaited ((minus_text b ++ (ds ++ (fraction_text f ++ l ∷ s ∷ []))) ++ rest) ≡ refused EmptyExponent rest
  signed_stops b ds f l s rest h i z j k m e =
      rw (regroup (minus_text b) ds (fraction_text f) rest)
      (to_letter b ds f l (s ∷ rest) h i z j k
      ∙ (letter_signed (strictly limit) fs (with_exponent (numeral b ds f None) l) s rest m
      ∙ sign_stops (strictly limit) fs (with_sign (with_exponent (numeral b ds f None) l) s) rest e))
    where
      regroup : (m w g ys : List ℕ) → (m ++ (w ++ (g ++ l ∷ s ∷ []))) ++ ys ≡ m ++ (w ++ (g ++ l ∷ s ∷ ys))
      regroup m w g ys = simp append_assoc

-- ---- the end of a number

-- A character that is not a digit ends a number, or the number has no error with it.
abbrev pub EndsOr : Option ℕ → Path → Numeral → ℕ → Type 0
EndsOr limit p n c = (step_digits (strictly limit) (path_frames p) (last_stage n) n c ≡ None)
    ⊎ IsErrorFree limit ((path_text p ++ spelling n) ++ c ∷ [])

point_more : (a m xs : List ℕ) → a ++ (m ++ (xs ++ 46 ∷ [])) ≡ (a ++ (m ++ (xs ++ []))) ++ 46 ∷ []
point_more a m xs = simp (append_assoc, append-nil)

letter_more : (a m xs f : List ℕ) (c : ℕ) → a ++ (m ++ (xs ++ (f ++ c ∷ []))) ≡ (a ++ (m ++ (xs ++ (f ++ [])))) ++ c ∷ []
letter_more a m xs f c = simp (append_assoc, append-nil)

ends_or : (limit : Option ℕ) (p : Path) → IsPath limit p → (b : Bool) (w f : List ℕ) (e : Option Exponent) → IsNumeral (numeral b w f e)
    → has_leading_zero w ≡ false → (c : ℕ) → is_ascii_digit c ≡ false → EndsOr limit p (numeral b w f e) c
ends_or limit p hp b [] f e h z c d = absurd (omega (arith, h.some_digit))
ends_or limit p hp b (x ∷ w) [] (Some e) h z c d = inl (rw d refl)
ends_or limit p hp b (x ∷ w) (y ∷ f) (Some e) h z c d = inl (rw d refl)
ends_or limit p hp b (x ∷ w) [] None h z c d = ⊎_elim point (λ i. ⊎_elim letter (neither i) (cases_Bool (is_exponent_letter c)))
    (cases_Bool (c == 46))
  where
    neither : (c == 46) ≡ false → is_exponent_letter c ≡ false → EndsOr limit p (numeral b (x ∷ w) [] None) c
    neither i j = inl (rw (d, z, i, j) refl)

    point : (c == 46) ≡ true → EndsOr limit p (numeral b (x ∷ w) [] None) c
    point i = inr (subst (λ y. IsErrorFree limit ((path_text p ++ spelling (numeral b (x ∷ w) [] None)) ++ y ∷ [])) (sym (eqb-true c 46 i))
        (subst (IsErrorFree limit) (point_more (path_text p) (minus_text b) (x ∷ w))
        (error_free_point ranges limit p hp b x w (h.integer, z))))

    letter : is_exponent_letter c ≡ true → EndsOr limit p (numeral b (x ∷ w) [] None) c
    letter i = inr (subst (IsErrorFree limit) (letter_more (path_text p) (minus_text b) (x ∷ w) [] c)
        (error_free_letter ranges limit p hp b x w [] (h.integer, z) tt c i))
ends_or limit p hp b (x ∷ w) (y ∷ f) None h z c d = ⊎_elim letter neither (cases_Bool (is_exponent_letter c))
  where
    neither : is_exponent_letter c ≡ false → EndsOr limit p (numeral b (x ∷ w) (y ∷ f) None) c
    neither j = inl (rw (d, j) refl)

    letter : is_exponent_letter c ≡ true → EndsOr limit p (numeral b (x ∷ w) (y ∷ f) None) c
    letter i = inr (subst (IsErrorFree limit) (letter_more (path_text p) (minus_text b) (x ∷ w) (fraction_text (y ∷ f)) c)
        (error_free_letter ranges limit p hp b x w (y ∷ f) (h.integer, z) h.fraction c i))

pub number_ends_or : (limit : Option ℕ) (p : Path) → IsPath limit p → (n : Numeral) → IsNumeral n → has_leading_zero n.integer ≡ false
    → (c : ℕ) → is_ascii_digit c ≡ false → EndsOr limit p n c
number_ends_or limit p hp n h z c d = ends_or limit p hp n.negative n.integer n.fraction n.exponent h z c d
