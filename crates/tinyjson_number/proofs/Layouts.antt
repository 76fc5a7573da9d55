-- A decimal's text is ASCII.
use Rattle.std.proofs.Common.{ℕ, suc, Bool, true, false, List, [], ◌∷◌, ◌++◌, Option, None, Some, IfSome, subst, IsTrue, arith, ◌≡◌, ℤ, refl, append-nil}
use Rattle.std.specs.Str.{IsAscii}
use Rattle.std.proofs.lemmas.Str.{IsAscii-append}
use Rattle.std.proofs.lemmas.Str.Ascii.{IsAscii-nil, IsAscii-cons}
use Rattle.std.proofs.lemmas.Bool.Decides.{nat_tests}
use Rattle.tinyjson_number.specs.Canonical.{IsDecimal}
use Rattle.tinyjson_number.specs.Layout.{layout_text}
use Rattle.tinyjson_number.specs.Text.{integer_text}
use Rattle.tinyjson_number.specs.declared.text.Layout.{Layout}
use Rattle.tinyjson_number.specs.Decimal.{Decimal}
use Rattle.tinyjson_number.specs.Text.{decimal_text}
use Rattle.tinyjson_number.proofs.DecimalTrip.{decimal_spelled}
use Rattle.tinyjson_number.specs.Number.{Canonical}
use Rattle.tinyjson_number.specs.Numeral.{AreDigits, power_width, Numeral, Exponent, IsNumeral, IsExponent, minus_text, sign_text}
use Rattle.tinyjson_number.specs.Numeral.{fraction_text, exponent_text, spelling, is_sign}
use Rattle.tinyjson_number.proofs.Forms.{digits_of_form}
use Rattle.tinyjson_number.proofs.Runs.{digits_ascii}

pub digits_are : (c : Canonical) → AreDigits c.decimal.digits
digits_are c = digits_of_form power_width c.decimal.negative c.decimal.digits c.decimal.power c.canonical

-- the two parts of ASCII
pub ascii_front : (xs ys : List ℕ) → IsAscii (xs ++ ys) → IsAscii xs
ascii_front [] ys h = IsAscii-nil
ascii_front (x ∷ xs) ys h = IsAscii-cons x xs (h 0) (ascii_front xs ys (λ i. h (suc i)))

pub ascii_back : (xs ys : List ℕ) → IsAscii (xs ++ ys) → IsAscii ys
ascii_back [] ys h = h
ascii_back (x ∷ xs) ys h = ascii_back xs ys (λ i. h (suc i))

minus_ascii : (b : Bool) → IsAscii (minus_text b)
minus_ascii true = IsAscii-cons 45 [] (omega arith) IsAscii-nil
minus_ascii false = IsAscii-nil

fraction_ascii : (ds : List ℕ) → AreDigits ds → IsAscii (fraction_text ds)
fraction_ascii [] h = IsAscii-nil
fraction_ascii (d ∷ ds) h = IsAscii-cons 46 (d ∷ ds) (omega arith) (digits_ascii (d ∷ ds) h)

sign_ascii : (s : Option ℕ) → IfSome s (λ c. IsTrue (is_sign c)) → IsAscii (sign_text s)
sign_ascii None h = IsAscii-nil
sign_ascii (Some c) h = IsAscii-cons c [] (grind (arith, nat_tests)) IsAscii-nil

exponent_ascii : (e : Option Exponent) → IfSome e IsExponent → IsAscii (exponent_text e)
exponent_ascii None h = IsAscii-nil
exponent_ascii (Some e) h = IsAscii-cons e.letter _ (let l = h.letter in grind (arith, nat_tests))
    (IsAscii-append (sign_text e.sign) e.digits (sign_ascii e.sign h.sign) (digits_ascii e.digits h.digits))

pub spelling_ascii : (n : Numeral) → IsNumeral n → IsAscii (spelling n)
spelling_ascii n h = search (IsAscii-append, minus_ascii, digits_ascii, fraction_ascii, exponent_ascii)

pub decimal_ascii : (d : Decimal) → IsDecimal d → IsAscii (decimal_text d)
decimal_ascii d h = let s = decimal_spelled power_width d h in subst IsAscii s.text (spelling_ascii s.numeral s.is)

-- the parts of a text without an exponent, and with one
pub four_parts : (l : Layout) → l.exponent ≡ None → l.sign.now ++ (l.front.now ++ (l.middle.now ++ l.back.now)) ≡ layout_text l
four_parts l e = rw (e, append-nil) refl

pub five_parts : (l : Layout) (n : ℤ) → l.exponent ≡ Some n
    → l.sign.now ++ (l.front.now ++ (l.middle.now ++ (l.back.now ++ 101 ∷ integer_text n))) ≡ layout_text l
five_parts l n e = rw e refl
