-- A numeral and the parts that a parser finds of it.
use Rattle.std.proofs.Common.{◌≡◌, ℕ, List, [], ◌∷◌, Bool, true, false, cond, ◌==◌, IsTrue, ◌+◌, ◌≤◌, ◌++◌, length, pos, neg_ℤ, Option}
use Rattle.std.proofs.Common.{Some, None, IfSome, Result, Ok, Err, refl, sym, ap, ◌∙◌, subst, arith, length-append}
use Rattle.std.specs.Prelude.{◌+ℤ◌, ◌-ℤ◌}
use Rattle.tinyjson_number.specs.Decimal.{Decimal, decimal_of, significant, trailing_zeros}
use Rattle.tinyjson_number.specs.Numeral.{Numeral, Exponent, IsNumeral, IsExponent, is_sign, signed, exponent_value, value, in_range}
use Rattle.tinyjson_number.specs.Numeral.{fraction_text, spelling}
use Rattle.tinyjson_number.specs.NumberText.{Spells}
use Rattle.tinyjson_number.specs.Number.{Canonical}
use Rattle.tinyjson_number.specs.Reading.{ReadsNumeral, numeral_of, plain, plain_sign, plain_exponent}
use Rattle.tinyjson_number.specs.declared.error.LiteralError.{LiteralError}
use Rattle.tinyjson_number.specs.declared.error.LiteralError.TheVariants.{OutOfRange, OutOfMemory}
use Rattle.tinyjson_number.specs.declared.parse.NumberParts.{NumberParts}

-- ---- the plain spelling of a numeral has the same decimal

minus_cases : (b : Bool) (n : ℕ) → signed (cond b (Some 45) None) n ≡ cond b (neg_ℤ (pos n)) (pos n)
minus_cases true n = refl
minus_cases false n = refl

signed_plain : (s : Option ℕ) (n : ℕ) → signed (plain_sign s) n ≡ signed s n
signed_plain None n = refl
signed_plain (Some c) n = minus_cases (c == 45) n

exponent_plain : (e : Option Exponent) → exponent_value (plain_exponent e) ≡ exponent_value e
exponent_plain None = refl
exponent_plain (Some e) = signed_plain e.sign _

pub value_plain : (n : Numeral) → value (plain n) ≡ value n
unfolding value
value_plain n = ap (λ z. decimal_of n.negative (significant (n.integer ++ n.fraction))
    ((z -ℤ pos (length n.fraction)) +ℤ pos (trailing_zeros (n.integer ++ n.fraction)))) (exponent_plain n.exponent)

sign_cases : (b : Bool) → IfSome (cond b (Some 45) None) (λ c. IsTrue (is_sign c))
sign_cases true = refl
sign_cases false = tt

sign_plain : (s : Option ℕ) → IfSome (plain_sign s) (λ c. IsTrue (is_sign c))
sign_plain None = tt
sign_plain (Some c) = sign_cases (c == 45)

is_exponent_plain : (e : Option Exponent) → IfSome e IsExponent → IfSome (plain_exponent e) IsExponent
is_exponent_plain None h = tt
is_exponent_plain (Some e) h = record { letter = refl; sign = sign_plain e.sign; digits = h.digits; some_digit = h.some_digit }

is_numeral_plain : (n : Numeral) → IsNumeral n → IsNumeral (plain n)
is_numeral_plain n h = search is_exponent_plain

-- ---- a text is as long as the digits that it spells

fraction_room : (ds : List ℕ) → length ds ≤ length (fraction_text ds)
fraction_room [] = omega arith
fraction_room (d ∷ ds) = omega arith

pub spelling_room : (n : Numeral) → length n.integer + length n.fraction ≤ length (spelling n)
spelling_room n = grind (arith, length-append)

pub spelled_room : (n : Numeral) (text : List ℕ) → Spells n text → length n.integer + length n.fraction ≤ length text
spelled_room n text h = subst (λ t. length n.integer + length n.fraction ≤ length t) h.spelled (spelling_room n)

-- ---- for a caller of `from_parts` that knows the numeral

-- the parts of a numeral may be passed
pub parts_numeral : (n : Numeral) (p : NumberParts) → numeral_of p ≡ plain n → IsNumeral n → IsNumeral (numeral_of p)
parts_numeral n p same h = subst IsNumeral (sym same) (is_numeral_plain n h)

reads_plain : (n : Numeral) (r : Result Canonical LiteralError) → ReadsNumeral (plain n) r → ReadsNumeral n r
reads_plain n (Ok x) h = (h.0 ∙ value_plain n, subst (λ (d : Decimal). IsTrue (in_range d)) (value_plain n) h.1)
reads_plain n (Err OutOfRange) h = subst (λ (d : Decimal). in_range d ≡ false) (value_plain n) h
reads_plain n (Err OutOfMemory) h = subst (λ (d : Decimal). IsTrue (in_range d)) (value_plain n) h

-- and the result is that of the numeral
pub parts_read : (n : Numeral) (p : NumberParts) → numeral_of p ≡ plain n → (r : Result Canonical LiteralError)
    → ReadsNumeral (numeral_of p) r → ReadsNumeral n r
parts_read n p same r h = reads_plain n r (subst (λ (m : Numeral). ReadsNumeral m r) same h)
