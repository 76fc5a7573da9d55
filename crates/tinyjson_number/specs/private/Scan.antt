-- The parts of a number, as they are found from left to right.
use Rattle.std.specs.Prelude.{◌≡◌, ℕ, ◌<◌, ◌≤◌, ◌==◌, Bool, false, IsTrue, List, [], ◌∷◌, ◌++◌, drop, length, if◌then◌else◌}
use Rattle.std.specs.Prelude.{Option, Some, None, IfSome}
use Rattle.std.specs.Char.{is_ascii_digit}
use Rattle.tinyjson_number.specs.Characters.{minus_sign}
use Rattle.tinyjson_number.specs.Numeral.{AreDigits, has_leading_zero, is_sign, minus_text, sign_text, fraction_text}
use Rattle.tinyjson_number.specs.Reading.{plain_sign}
use Rattle.tinyjson_number.specs.Scan.{is_point, starts}
use Rattle.tinyjson_number.specs.declared.parse.ExponentParts.{ExponentParts}
use Rattle.tinyjson_number.specs.declared.scan.Mantissa.{Mantissa}

abbrev pub is_minus : ℕ → Bool
is_minus c = c == minus_sign

-- a text is what precedes an exponent, and a rest
pub record IsMantissa (negative : Bool) (integer fraction text rest : List ℕ) : Type 0 where
  pub integer_digits : AreDigits integer
  pub some_digit : 0 < length integer
  pub no_leading_zero : has_leading_zero integer ≡ false
  pub fraction_digits : AreDigits fraction
  pub spelled : text ≡ minus_text negative ++ (integer ++ (fraction_text fraction ++ rest))
  pub digit : starts is_ascii_digit rest ≡ false
  pub point : fraction ≡ [] → starts is_point rest ≡ false

abbrev pub MantissaAt : List ℕ → ℕ → Mantissa → ℕ → Type 0
MantissaAt text at m end = IsMantissa m.negative m.integer.now m.fraction.now (drop at text) (drop end text) × (end ≤ length text)

abbrev pub NoMantissaAt : List ℕ → ℕ → Type 0
NoMantissaAt text at = (negative : Bool) (integer fraction rest : List ℕ) → ¬ IsMantissa negative integer fraction (drop at text) rest

-- a text is a fraction, with its point if it has digits, and a rest
pub record IsFraction (digits text rest : List ℕ) : Type 0 where
  pub are : AreDigits digits
  pub spelled : text ≡ fraction_text digits ++ rest
  pub digit : starts is_ascii_digit rest ≡ false
  pub point : digits ≡ [] → starts is_point rest ≡ false

abbrev pub FractionAt : List ℕ → ℕ → List ℕ → ℕ → Type 0
FractionAt text at digits end = IsFraction digits (drop at text) (drop end text) × (end ≤ length text)

abbrev pub NoFractionAt : List ℕ → ℕ → Type 0
NoFractionAt text at = (digits rest : List ℕ) → ¬ IsFraction digits (drop at text) rest

-- a text is the sign of an exponent, if it has one, and a rest
pub record SignAt (text : List ℕ) (at : ℕ) (negative : Bool) (end : ℕ) : Type 0 where
  pub sign : Option ℕ
  pub known : IfSome sign (λ c. IsTrue (is_sign c))
  pub minus : (if negative then Some minus_sign else None) ≡ plain_sign sign
  pub spelled : drop at text ≡ sign_text sign ++ drop end text
  pub none : sign ≡ None → starts is_sign (drop end text) ≡ false
  pub within : end ≤ length text

-- a text is the sign and the digits of an exponent, and a rest
pub record IsPower (sign : Option ℕ) (digits text rest : List ℕ) : Type 0 where
  pub known : IfSome sign (λ c. IsTrue (is_sign c))
  pub are : AreDigits digits
  pub some_digit : 0 < length digits
  pub spelled : text ≡ sign_text sign ++ (digits ++ rest)
  pub digit : starts is_ascii_digit rest ≡ false

pub record ExponentAt (text : List ℕ) (at : ℕ) (parts : ExponentParts) (end : ℕ) : Type 0 where
  pub sign : Option ℕ
  pub minus : (if parts.negative then Some minus_sign else None) ≡ plain_sign sign
  pub power : IsPower sign parts.digits.now (drop at text) (drop end text)
  pub within : end ≤ length text

abbrev pub NoExponentAt : List ℕ → ℕ → Type 0
NoExponentAt text at = (sign : Option ℕ) (digits rest : List ℕ) → ¬ IsPower sign digits (drop at text) rest
