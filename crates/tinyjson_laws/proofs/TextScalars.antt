-- The characters of a text of the grammar are scalar values.
use Rattle.std.proofs.Common.{ℕ, Bool, true, false, List, [], ◌∷◌, Option, Some, None, refl, arith, IsTrue, ◌||◌, ◌==◌}
use Rattle.std.specs.Prelude.{IfSome, IsSome}
use Rattle.std.specs.Char.{IsScalar, is_ascii_digit}
use Rattle.std.specs.Str.{all_scalars}
use Rattle.std.proofs.lemmas.Bool.{and_from}
use Rattle.tinyjson_number.specs.Numeral.{Numeral, Exponent, IsNumeral, IsExponent, AreDigits, minus_text, sign_text, fraction_text}
use Rattle.tinyjson_number.specs.Numeral.{exponent_text, spelling}
use Rattle.tinyjson_grammar.specs.Characters.{is_white, is_hex, short_escape}
use Rattle.tinyjson_grammar.specs.Syntax.{Syntax, Elements, Pairs, null, boolean, number, string, empty_array, array, empty_object}
use Rattle.tinyjson_grammar.specs.Syntax.{object, last_element, element, last_pair, pair, Piece, plain, escape, unit, piece_text}
use Rattle.tinyjson_grammar.specs.Syntax.{pieces_text, IsPiece, ArePieces, text, elements_text, pairs_text, AreWhite, IsSpelled}
use Rattle.tinyjson_grammar.specs.Syntax.{AreElements, ArePairs}
use Rattle.tinyjson.proofs.Callers.Laws.{scalars_append}

digit_scalar : (c : ℕ) → IsTrue (is_ascii_digit c) → IsScalar c
digit_scalar c h = grind arith

white_scalar : (c : ℕ) → IsTrue (is_white c) → IsScalar c
white_scalar c h = grind arith

letter_scalar : (c : ℕ) → IsTrue ((c == 101) || (c == 69)) → IsScalar c
letter_scalar c h = grind arith

sign_scalar : (c : ℕ) → IsTrue ((c == 43) || (c == 45)) → IsScalar c
sign_scalar c h = grind arith

hex_scalar : (c : ℕ) → IsTrue (is_hex c) → IsScalar c
hex_scalar c h = grind arith

escape_scalar : (c : ℕ) → IsSome (short_escape c) → IsScalar c
escape_scalar c h = grind arith

digits_scalars : (ds : List ℕ) → AreDigits ds → IsTrue (all_scalars ds)
digits_scalars [] h = refl
digits_scalars (d ∷ ds) h = and_from _ _ (digit_scalar d h.0) (digits_scalars ds h.1)

pub white_scalars : (w : List ℕ) → AreWhite w → IsTrue (all_scalars w)
white_scalars [] h = refl
white_scalars (c ∷ cs) h = and_from _ _ (white_scalar c h.0) (white_scalars cs h.1)

minus_scalars : (b : Bool) → IsTrue (all_scalars (minus_text b))
minus_scalars true = refl
minus_scalars false = refl

fraction_scalars : (f : List ℕ) → AreDigits f → IsTrue (all_scalars (fraction_text f))
fraction_scalars [] h = refl
fraction_scalars (d ∷ ds) h = digits_scalars (d ∷ ds) h

sign_scalars : (s : Option ℕ) → IfSome s (λ c. IsTrue ((c == 43) || (c == 45))) → IsTrue (all_scalars (sign_text s))
sign_scalars None h = refl
sign_scalars (Some c) h = and_from _ _ (sign_scalar c h) refl

exponent_scalars : (e : Option Exponent) → IfSome e IsExponent → IsTrue (all_scalars (exponent_text e))
exponent_scalars None h = refl
exponent_scalars (Some e) h = and_from _ _ (letter_scalar e.letter h.letter)
    (scalars_append (sign_text e.sign) e.digits (sign_scalars e.sign h.sign) (digits_scalars e.digits h.digits))

numeral_scalars : (n : Numeral) → IsNumeral n → IsTrue (all_scalars (spelling n))
numeral_scalars n h = scalars_append (minus_text n.negative) _ (minus_scalars n.negative)
    (scalars_append n.integer _ (digits_scalars n.integer h.integer)
    (scalars_append (fraction_text n.fraction) _ (fraction_scalars n.fraction h.fraction) (exponent_scalars n.exponent h.exponent)))

piece_scalars : (p : Piece) → IsPiece p → IsTrue (all_scalars (piece_text p))
piece_scalars (plain c) h = and_from _ _ h.0 refl
piece_scalars (escape c) h = and_from _ _ (escape_scalar c h) refl
piece_scalars (unit a b c d) h = and_from _ _ (hex_scalar a h.0)
    (and_from _ _ (hex_scalar b h.1) (and_from _ _ (hex_scalar c h.2) (and_from _ _ (hex_scalar d h.3) refl)))

pieces_scalars : (ps : List Piece) → ArePieces ps → IsTrue (all_scalars (pieces_text ps))
pieces_scalars [] h = refl
pieces_scalars (p ∷ ps) h = scalars_append (piece_text p) (pieces_text ps) (piece_scalars p h.0) (pieces_scalars ps h.1)

mutual
  pub text_of_scalars : (s : Syntax) → IsSpelled s → IsTrue (all_scalars (text s))
  text_of_scalars null h = refl
  text_of_scalars (boolean true) h = refl
  text_of_scalars (boolean false) h = refl
  text_of_scalars (number n) h = numeral_scalars n h
  text_of_scalars (string ps) h = scalars_append (pieces_text ps) (34 ∷ []) (pieces_scalars ps h) refl
  text_of_scalars (empty_array w) h = scalars_append w (93 ∷ []) (white_scalars w h) refl
  text_of_scalars (array es) h = scalars_append (elements_text es) (93 ∷ []) (elements_scalars es h) refl
  text_of_scalars (empty_object w) h = scalars_append w (125 ∷ []) (white_scalars w h) refl
  text_of_scalars (object ps) h = scalars_append (pairs_text ps) (125 ∷ []) (pairs_scalars ps h) refl

  elements_scalars : (es : Elements) → AreElements es → IsTrue (all_scalars (elements_text es))
  elements_scalars (last_element v s w) h = scalars_append v _ (white_scalars v h.0)
      (scalars_append (text s) w (text_of_scalars s h.1) (white_scalars w h.2))
  elements_scalars (element v s w es) h = scalars_append v _ (white_scalars v h.0)
      (scalars_append (text s) _ (text_of_scalars s h.1) (scalars_append w _ (white_scalars w h.2) (elements_scalars es h.3)))

  pairs_scalars : (ps : Pairs) → ArePairs ps → IsTrue (all_scalars (pairs_text ps))
  pairs_scalars (last_pair a k b c s d) h = scalars_append a _ (white_scalars a h.0)
      (scalars_append (text k) _ (text_of_scalars k h.1) (scalars_append b _ (white_scalars b h.2)
      (scalars_append c _ (white_scalars c h.3) (scalars_append (text s) d (text_of_scalars s h.4) (white_scalars d h.5)))))
  pairs_scalars (pair a k b c s d ps) h = scalars_append a _ (white_scalars a h.0)
      (scalars_append (text k) _ (text_of_scalars k h.1) (scalars_append b _ (white_scalars b h.2)
      (scalars_append c _ (white_scalars c h.3) (scalars_append (text s) _ (text_of_scalars s h.4)
      (scalars_append d _ (white_scalars d h.5) (pairs_scalars ps h.6))))))
