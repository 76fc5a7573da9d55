-- Each state that is read is viable in the loose grammar, and but for late characters has no error.
use Rattle.std.proofs.Common.{◌≡◌, ℕ, Bool, true, List, [], ◌∷◌, ◌++◌, Option, Some, None, refl, ap, sym, ◌∙◌, append_assoc, append-nil}
use Rattle.std.proofs.Common.{arith, subst, inl, ⊎_elim, IsTrue, ◌==◌}
use Rattle.std.specs.Prelude.{IfSome}
use Rattle.std.specs.Char.{is_ascii_digit}
use Rattle.std.proofs.lemmas.Bool.{eqb-true, le-ltb, lt-ltb, leb-true, and_parts, or_left, or_right, or_cases}
use Rattle.tinyjson_grammar.specs.Characters.{is_hex, paired}
use Rattle.tinyjson_number.specs.Numeral.{Numeral, numeral, Exponent, IsNumeral, AreDigits, minus_text, fraction_text, sign_text}
use Rattle.tinyjson_number.specs.Numeral.{IsExponent, exponent_text, spelling, value, is_sign, is_exponent_letter}
use Rattle.tinyjson_grammar.specs.Syntax.{Syntax, null, text, depth, Piece, unit, ArePieces, piece_codes, pieces_text}
use Rattle.tinyjson_grammar.specs.Prefix.{IsErrorFree, IsValue, IsLooselyViable}
use Rattle.tinyjson_grammar.specs.Machine.{Within}
use Rattle.tinyjson_grammar.specs.Machine
use Rattle.tinyjson_grammar.specs.Refusal.{IsPromptly, AreLate, is_late, IsHex}
use Rattle.tinyjson_grammar.proofs.Trace.Paths.{Path, key_in, path_text, IsPath}
use Rattle.tinyjson_grammar.proofs.Prefix.ErrorFree.{error_free, error_free_from, placed, IsPlaced}
use Rattle.tinyjson_grammar.proofs.Trace.State.{Part, part_minus, part_integer, part_point, part_fraction, part_letter, part_sign}
use Rattle.tinyjson_grammar.proofs.Trace.State.{part_exponent, exponent_with, part_text, IsPart, IsIntegerPart, Ranges, Quad, quads}
use Rattle.tinyjson_grammar.proofs.Trace.State.{IsSettled, within_text, IsPartWithin, Read, at_first, at_awaited, in_literal, in_digits}
use Rattle.tinyjson_grammar.proofs.Trace.State.{in_quoted, at_after, read_text, IsRead, IsKeyed, flat_within, Ending, ends_loosely}
use Rattle.tinyjson_grammar.proofs.Trace.State.{white_loosely, are_pieces_append, pieces_append}

number_ending : (n : Numeral) (xs rest : List ℕ) → IsNumeral n → spelling n ≡ xs ++ rest → Ending xs
number_ending n xs rest is e = record { value = Syntax.number n; spelled = is; flat = refl; rest = rest; whole = e }

exponent_ending : (b : Bool) (d : ℕ) (ds f : List ℕ) (l : ℕ) (s : Option ℕ) (e : ℕ) (es : List ℕ) → IsPart (part_letter b d ds f l)
    → IfSome s (λ c. IsTrue (is_sign c)) → AreDigits (e ∷ es) → (xs rest : List ℕ)
    → spelling (numeral b (d ∷ ds) f (Some (exponent_with l s (e ∷ es)))) ≡ xs ++ rest → Ending xs
exponent_ending b d ds f l s e es h i k xs rest w =
    let power : IsExponent (exponent_with l s (e ∷ es)) = record { letter = h.2; sign = i; digits = k; some_digit = omega arith } in
    number_ending (numeral b (d ∷ ds) f (Some (exponent_with l s (e ∷ es)))) xs rest
    (record { integer = h.0.0; some_digit = omega arith; fraction = h.1; exponent = power }) w

pub part_ending : (n : Part) → IsPart n → Ending (part_text n)
part_ending part_minus h = number_ending (numeral true (48 ∷ []) [] None) _ (48 ∷ [])
    (record { integer = (refl, tt); some_digit = omega arith; fraction = tt; exponent = tt }) refl
part_ending (part_integer b d ds) h =
    number_ending (numeral b (d ∷ ds) [] None) _ [] (record { integer = h; some_digit = omega arith; fraction = tt; exponent = tt })
    (ap (λ xs. minus_text b ++ d ∷ xs) (append-nil ds) ∙ sym (append-nil (minus_text b ++ d ∷ ds)))
part_ending (part_point b d ds) h = number_ending (numeral b (d ∷ ds) (48 ∷ []) None) _ (48 ∷ [])
    (record { integer = h.0; some_digit = omega arith; fraction = (refl, tt); exponent = tt }) (simp append_assoc)
part_ending (part_fraction b d ds e es) h = number_ending (numeral b (d ∷ ds) (e ∷ es) None) _ []
    (record { integer = h.0.0; some_digit = omega arith; fraction = h.1; exponent = tt }) (simp (append_assoc, append-nil))
part_ending (part_letter b d ds f l) h = exponent_ending b d ds f l None 48 [] h tt (refl, tt) _ (48 ∷ []) (simp append_assoc)
part_ending (part_sign b d ds f l s) h =
    exponent_ending b d ds f l (Some s) 48 [] (h.0, h.1, h.2) h.3 (refl, tt) _ (48 ∷ []) (simp append_assoc)
part_ending (part_exponent b d ds f l s e es) h =
    exponent_ending b d ds f l s e es (h.0, h.1, h.2) h.3 h.4 _ [] (simp (append_assoc, append-nil))

-- the piece that was begun, completed
pub record Last (wi : Within) : Type 0 where
  pub pieces : List Piece
  pub are : ArePieces pieces
  pub rest : List ℕ
  pub whole : pieces_text pieces ≡ within_text wi ++ rest

pub last_piece : (wi : Within) → IsPartWithin wi → Last wi
last_piece Machine.plain h = record { pieces = []; are = tt; rest = []; whole = refl }
last_piece Machine.backslash h = record { pieces = Piece.escape 34 ∷ []; are = (refl, tt); rest = 34 ∷ []; whole = refl }
last_piece (Machine.hex []) h = record {
  pieces = unit 48 48 48 48 ∷ [];
  are = ((refl, refl, refl, refl), tt);
  rest = 48 ∷ 48 ∷ 48 ∷ 48 ∷ [];
  whole = refl;
}
last_piece (Machine.hex (a ∷ [])) h = record {
  pieces = unit a 48 48 48 ∷ [];
  are = ((h.0.0, refl, refl, refl), tt);
  rest = 48 ∷ 48 ∷ 48 ∷ [];
  whole = refl;
}
last_piece (Machine.hex (a ∷ b ∷ [])) h = record {
  pieces = unit a b 48 48 ∷ [];
  are = ((h.0.0, h.0.1.0, refl, refl), tt);
  rest = 48 ∷ 48 ∷ [];
  whole = refl;
}
last_piece (Machine.hex (a ∷ b ∷ c ∷ [])) h = record {
  pieces = unit a b c 48 ∷ [];
  are = ((h.0.0, h.0.1.0, h.0.1.1.0, refl), tt);
  rest = 48 ∷ [];
  whole = refl;
}
last_piece (Machine.hex (a ∷ b ∷ c ∷ d ∷ ds)) h = absurd (omega (arith, h.1))

pub quoted_ending : (ps : List Piece) (qs : List Quad) (wi : Within) → ArePieces ps → ArePieces (quads qs) → IsPartWithin wi
    → Ending (34 ∷ (pieces_text ps ++ (pieces_text (quads qs) ++ within_text wi)))
quoted_ending ps qs wi h i j =
    let l : Last wi = last_piece wi j in
    record {
      value = Syntax.string (ps ++ (quads qs ++ l.pieces));
      spelled = are_pieces_append ps _ h (are_pieces_append (quads qs) _ i l.are);
      flat = refl;
      rest = l.rest ++ 34 ∷ [];
      whole = ap (λ xs. 34 ∷ xs) (simp (pieces_append, l.whole, append_assoc));
    }

pub read_viable : (limit : Option ℕ) (x : Read) → IsRead limit x → IsLooselyViable limit (read_text x)
read_viable limit (at_first p) h = subst (IsLooselyViable limit) (append-nil (path_text p))
    (ends_loosely limit p h.0 [] (record { value = null; spelled = tt; flat = refl; rest = 110 ∷ 117 ∷ 108 ∷ 108 ∷ []; whole = refl }))
read_viable limit (at_awaited p) h = subst (IsLooselyViable limit) (append-nil (path_text p))
    (ends_loosely limit p h [] (record { value = null; spelled = tt; flat = refl; rest = 110 ∷ 117 ∷ 108 ∷ 108 ∷ []; whole = refl }))
read_viable limit (in_literal p s done left) h = ends_loosely limit p h.0 done
    (record { value = s; spelled = h.1.value.spelled; flat = h.1.flat; rest = left; whole = h.1.whole })
read_viable limit (in_digits p n) h = ends_loosely limit p h.0 (part_text n) (part_ending n h.1)
read_viable limit (in_quoted p ps cs qs wi) h = ends_loosely limit p h.0 _ (quoted_ending ps qs wi h.1 h.3 h.4)
read_viable limit (at_after p s v) h = white_loosely limit p h.0 s h.1.spelled h.3 v h.4

-- ---- no error, then late characters

pub at_once : (limit : Option ℕ) (xs : List ℕ) → IsErrorFree limit xs → IsPromptly limit xs []
at_once limit xs h = record { prefix = xs; late = []; whole = sym (append-nil xs); error_free = h; are_late = tt }

then_late : (limit : Option ℕ) (prefix late xs : List ℕ) → xs ≡ prefix ++ (late ++ []) → IsErrorFree limit prefix → AreLate late
    → IsPromptly limit xs []
then_late limit prefix late xs e h i = record { prefix = prefix; late = late; whole = e; error_free = h; are_late = i }

pub digit_hex : (c : ℕ) → IsTrue (is_ascii_digit c) → IsTrue (is_hex c)
digit_hex c h =
    let p = and_parts _ _ h in
    rw (le-ltb c 48 (leb-true _ _ p.0)) (rw (lt-ltb c 58 (omega (arith, leb-true _ _ p.1))) (lt-ltb _ _ (omega (arith, leb-true _ _ p.1))))

pub hex_late : (c : ℕ) → IsTrue (is_hex c) → IsTrue (is_late c)
hex_late c h = or_left _ _ h

pub digits_late : (ds : List ℕ) → AreDigits ds → AreLate ds
digits_late [] h = tt
digits_late (d ∷ ds) h = (hex_late d (digit_hex d h.0), digits_late ds h.1)

pub hexes_late : (ds : List ℕ) → IsHex ds → AreLate ds
hexes_late [] h = tt
hexes_late (d ∷ ds) h = (hex_late d h.0, hexes_late ds h.1)

pub late_append : (xs ys : List ℕ) → AreLate xs → AreLate ys → AreLate (xs ++ ys)
late_append [] ys h i = i
late_append (x ∷ xs) ys h i = (h.0, late_append xs ys h.1 i)

pub letter_late : (l : ℕ) → IsTrue (is_exponent_letter l) → IsTrue (is_late l)
letter_late l h = ⊎_elim (λ e. rw (eqb-true l 101 e) refl) (λ e. rw (eqb-true l 69 e) refl) (or_cases (l == 101) (l == 69) h)

pub sign_late : (s : ℕ) → IsTrue (is_sign s) → IsTrue (is_late s)
sign_late s h = or_right (is_hex s) _ (or_right (s == 117) _ (or_right (s == 92) _ h))

pub signs_late : (s : Option ℕ) → IfSome s (λ c. IsTrue (is_sign c)) → AreLate (sign_text s)
signs_late None h = tt
signs_late (Some c) h = (sign_late c h, tt)

pub quads_late : (qs : List Quad) → ArePieces (quads qs) → AreLate (pieces_text (quads qs))
quads_late [] h = tt
quads_late (q ∷ qs) h = (
  refl,
  (refl, (hex_late q.a h.0.0, (hex_late q.b h.0.1, (hex_late q.c h.0.2, (hex_late q.d h.0.3, quads_late qs h.1))))),
)

pub within_late : (wi : Within) → IsPartWithin wi → AreLate (within_text wi)
within_late Machine.plain h = tt
within_late Machine.backslash h = (refl, tt)
within_late (Machine.hex ds) h = (refl, (refl, hexes_late ds h.0))

-- a numeral without exponent, and what may follow of it
pub record Numbered (limit : Option ℕ) (p : Path) (b : Bool) (w f : List ℕ) : Type 0 where
  pub exponent : Exponent
  pub error_free : IsErrorFree limit (path_text p ++ (text (Syntax.number (numeral b w f (Some exponent))) ++ []))

module _ (ranges : Ranges) where
  pub numbered : (limit : Option ℕ) (p : Path) → IsPath limit p → (b : Bool) (d : ℕ) (ds f : List ℕ) → IsIntegerPart d ds → AreDigits f
      → Numbered limit p b (d ∷ ds) f
  numbered limit p hp b d ds f h i =
      let r = ranges b (d ∷ ds) f h.0 i in
      let s : Syntax = Syntax.number (numeral b (d ∷ ds) f (Some r.0)) in
      record {
        exponent = r.0;
        error_free = error_free limit p hp s (record {
          spelled = record { integer = h.0; some_digit = omega arith; fraction = i; exponent = r.1 };
          strict = (rw h.1 refl, r.2);
        }) (flat_within limit p s hp refl) [] tt (placed p s);
      }

  pub error_free_number : (limit : Option ℕ) (p : Path) → IsPath limit p → (b : Bool) (d : ℕ) (ds f : List ℕ) → IsIntegerPart d ds
      → AreDigits f → IsErrorFree limit (path_text p ++ (minus_text b ++ d ∷ (ds ++ fraction_text f)))
  error_free_number limit p hp b d ds f h i =
      let n : Numbered limit p b (d ∷ ds) f = numbered limit p hp b d ds f h i in
      error_free_from limit (path_text p ++ (minus_text b ++ d ∷ (ds ++ fraction_text f))) (exponent_text (Some n.exponent)) _
      (simp (append_assoc, append-nil)) n.error_free

  pub error_free_minus : (limit : Option ℕ) (p : Path) → IsPath limit p → IsErrorFree limit (path_text p ++ 45 ∷ [])
  error_free_minus limit p hp = error_free_from limit (path_text p ++ 45 ∷ []) (48 ∷ []) (path_text p ++ 45 ∷ 48 ∷ []) (simp append_assoc)
      (error_free_number limit p hp true 48 [] [] ((refl, tt), refl) tt)

  pub error_free_point : (limit : Option ℕ) (p : Path) → IsPath limit p → (b : Bool) (d : ℕ) (ds : List ℕ) → IsIntegerPart d ds
      → IsErrorFree limit (path_text p ++ (minus_text b ++ d ∷ (ds ++ 46 ∷ [])))
  error_free_point limit p hp b d ds h =
      error_free_from limit (path_text p ++ (minus_text b ++ d ∷ (ds ++ 46 ∷ []))) (48 ∷ []) _ (simp append_assoc)
      (error_free_number limit p hp b d ds (48 ∷ []) h (refl, tt))

  pub error_free_letter : (limit : Option ℕ) (p : Path) → IsPath limit p → (b : Bool) (d : ℕ) (ds f : List ℕ) → IsIntegerPart d ds
      → AreDigits f → (l : ℕ) → IsTrue (is_exponent_letter l) →
      IsErrorFree limit (path_text p ++ (minus_text b ++ d ∷ (ds ++ (fraction_text f ++ l ∷ []))))
  unfolding value
  error_free_letter limit p hp b d ds f h i l hl =
      let r = ranges b (d ∷ ds) f h.0 i in
      let e : Exponent = exponent_with l r.0.sign r.0.digits in
      let s : Syntax = Syntax.number (numeral b (d ∷ ds) f (Some e)) in
      let is : IsNumeral (numeral b (d ∷ ds) f (Some e)) = record {
        integer = h.0;
        some_digit = omega arith;
        fraction = i;
        exponent = record { letter = hl; sign = r.1.sign; digits = r.1.digits; some_digit = r.1.some_digit };
      } in
      error_free_from limit (path_text p ++ (minus_text b ++ d ∷ (ds ++ (fraction_text f ++ l ∷ [])))) (sign_text r.0.sign ++ r.0.digits)
      (path_text p ++ (text s ++ [])) (simp (append_assoc, append-nil))
      (error_free limit p hp s (record { spelled = is; strict = (rw h.1 refl, r.2) }) (flat_within limit p s hp refl) [] tt (placed p s))

  pub part_prompt : (limit : Option ℕ) (p : Path) → IsPath limit p → (n : Part) → IsPart n
      → IsPromptly limit (path_text p ++ part_text n) []
  part_prompt limit p hp part_minus h = at_once limit _ (error_free_minus limit p hp)
  part_prompt limit p hp (part_integer b d ds) h =
      then_late limit (path_text p ++ (minus_text b ++ d ∷ [])) ds _ (simp (append_assoc, append-nil))
      (error_free_number limit p hp b d [] [] ((h.0, tt), refl) tt) (digits_late ds h.1)
  part_prompt limit p hp (part_point b d ds) h = at_once limit _ (error_free_point limit p hp b d ds h)
  part_prompt limit p hp (part_fraction b d ds e es) h = at_once limit _ (error_free_number limit p hp b d ds (e ∷ es) h.0 h.1)
  part_prompt limit p hp (part_letter b d ds f l) h =
      then_late limit (path_text p ++ (minus_text b ++ d ∷ (ds ++ fraction_text f))) (l ∷ []) _ (simp append_assoc)
      (error_free_number limit p hp b d ds f h.0 h.1) (letter_late l h.2, tt)
  part_prompt limit p hp (part_sign b d ds f l s) h =
      then_late limit (path_text p ++ (minus_text b ++ d ∷ (ds ++ fraction_text f))) (l ∷ s ∷ []) _ (simp append_assoc)
      (error_free_number limit p hp b d ds f h.0 h.1) (letter_late l h.2, (sign_late s h.3, tt))
  part_prompt limit p hp (part_exponent b d ds f l s e es) h =
      then_late limit (path_text p ++ (minus_text b ++ d ∷ (ds ++ fraction_text f))) (l ∷ (sign_text s ++ e ∷ es)) _
      (simp (append_assoc, append-nil)) (error_free_number limit p hp b d ds f h.0 h.1)
      (letter_late l h.2, late_append (sign_text s) (e ∷ es) (signs_late s h.3) (digits_late (e ∷ es) h.4))

-- ---- the other states

pub error_free_value : (limit : Option ℕ) (p : Path) → IsPath limit p → (s : Syntax) → IsValue s → depth s ≡ 0 → (prefix rest : List ℕ)
    → text s ≡ prefix ++ rest → IsErrorFree limit (path_text p ++ prefix)
error_free_value limit p hp s hs hd prefix rest e =
    error_free_from limit (path_text p ++ prefix) rest (path_text p ++ (text s ++ [])) (rw e (simp (append_assoc, append-nil)))
    (error_free limit p hp s hs (flat_within limit p s hp hd) [] tt (placed p s))

pub error_free_place : (limit : Option ℕ) (p : Path) → IsPath limit p → IsErrorFree limit (path_text p)
error_free_place limit p hp = error_free_from limit (path_text p) (110 ∷ 117 ∷ 108 ∷ 108 ∷ []) (path_text p ++ (text null ++ [])) refl
    (error_free limit p hp null (record { spelled = tt; strict = tt }) (flat_within limit p null hp refl) [] tt (placed p null))

pub is_keyed_placed : (p : Path) (s : Syntax) (v : List ℕ) → IsKeyed p s → IsPlaced p s v
is_keyed_placed (key_in p ps w) s v h = inl h
is_keyed_placed _ s v h = tt

pub error_free_after : (limit : Option ℕ) (p : Path) (s : Syntax) (v : List ℕ) → IsRead limit (at_after p s v)
    → IsErrorFree limit (path_text p ++ (text s ++ v))
error_free_after limit p s v h = error_free limit p h.0 s h.1 h.3 v h.4 (is_keyed_placed p s v h.2)

pub settled_strict : (ps : List Piece) (cs : List ℕ) → IsSettled ps cs → IsTrue (paired (piece_codes ps))
settled_strict ps cs h = ap (λ qs. paired (piece_codes qs)) (sym (append-nil ps)) ∙ (h []).1

pub error_free_open : (limit : Option ℕ) (p : Path) → IsPath limit p → (ps : List Piece) (cs : List ℕ) → ArePieces ps → IsSettled ps cs
    → IsErrorFree limit (path_text p ++ 34 ∷ pieces_text ps)
error_free_open limit p hp ps cs h i = error_free_value limit p hp (Syntax.string ps)
    (record { spelled = h; strict = settled_strict ps cs i }) refl (34 ∷ pieces_text ps) (34 ∷ []) refl

pub quoted_prompt : (limit : Option ℕ) (p : Path) → IsPath limit p → (ps : List Piece) (cs : List ℕ) → ArePieces ps → IsSettled ps cs
    → (qs : List Quad) → ArePieces (quads qs) → (late : List ℕ) → AreLate late → (end : List ℕ) →
    IsPromptly limit (path_text p ++ 34 ∷ (pieces_text ps ++ (pieces_text (quads qs) ++ (late ++ end)))) end
quoted_prompt limit p hp ps cs h i qs j late l end = record {
  prefix = path_text p ++ 34 ∷ pieces_text ps;
  late = pieces_text (quads qs) ++ late;
  whole = simp append_assoc;
  error_free = error_free_open limit p hp ps cs h i;
  are_late = late_append _ _ (quads_late qs j) l;
}

pub read_prompt : Ranges → (limit : Option ℕ) (x : Read) → IsRead limit x → IsPromptly limit (read_text x) []
read_prompt ranges limit (at_first p) h = at_once limit _ (error_free_place limit p h.0)
read_prompt ranges limit (at_awaited p) h = at_once limit _ (error_free_place limit p h)
read_prompt ranges limit (in_literal p s done left) h =
    at_once limit (path_text p ++ done) (error_free_value limit p h.0 s h.1.value h.1.flat done left h.1.whole)
read_prompt ranges limit (in_digits p n) h = part_prompt ranges limit p h.0 n h.1
read_prompt ranges limit (in_quoted p ps cs qs wi) h =
    subst (λ xs. IsPromptly limit (path_text p ++ 34 ∷ (pieces_text ps ++ (pieces_text (quads qs) ++ xs))) []) (append-nil (within_text wi))
    (quoted_prompt limit p h.0 ps cs h.1 h.2 qs h.3 (within_text wi) (within_late wi h.4) [])
read_prompt ranges limit (at_after p s v) h = at_once limit _ (error_free_after limit p s v h)
