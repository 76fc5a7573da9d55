-- A number as it is spelled (RFC 8259, section 6).
use Rattle.std.specs.Prelude.{ℕ, ◌<◌, Bool, false, cond, ◌||◌, ◌==◌, List, [], ◌∷◌, ◌++◌, Option, Some, None, IfSome, ℤ, pos, ⊤, IsTrue}
use Rattle.std.specs.Prelude.{length, ◌&&◌}
use Rattle.std.specs.Char.{is_ascii_digit}
use Rattle.tinyjson_number.specs.Decimal.{Decimal, decimal_of, significant, trailing_zeros}
use Rattle.std.specs.Str.Parse.{digits_value}
use Rattle.std.specs.Prelude.{neg_ℤ, ◌+ℤ◌, ◌-ℤ◌, int_le, int_lt, ◌^◌}
use Rattle.std.specs.Int.{Width, w64}
use mir.Val.{hbits}
use Rattle.tinyjson_number.specs.Characters.{capital_e, decimal_point, digit_zero, letter_e, minus_sign, plus_sign}

-- e or E, a sign if there is one, and digits
pub record Exponent : Type 0 where
  pub letter : ℕ
  pub sign : Option ℕ
  pub digits : List ℕ

-- The fraction is empty where there is no point.
pub record Numeral : Type 0 where
  pub negative : Bool
  pub integer : List ℕ
  pub fraction : List ℕ
  pub exponent : Option Exponent

-- the numeral of these parts
abbrev pub numeral : Bool → List ℕ → List ℕ → Option Exponent → Numeral
numeral b ds f e = record { negative = b; integer = ds; fraction = f; exponent = e }

abbrev pub sign_text : Option ℕ → List ℕ
sign_text None = []
sign_text (Some c) = c ∷ []

abbrev pub minus_text : Bool → List ℕ
minus_text b = cond b (minus_sign ∷ []) []

abbrev pub fraction_text : List ℕ → List ℕ
fraction_text [] = []
fraction_text (d ∷ ds) = decimal_point ∷ d ∷ ds

abbrev pub exponent_text : Option Exponent → List ℕ
exponent_text None = []
exponent_text (Some e) = e.letter ∷ (sign_text e.sign ++ e.digits)

abbrev pub spelling : Numeral → List ℕ
spelling n = minus_text n.negative ++ (n.integer ++ (fraction_text n.fraction ++ exponent_text n.exponent))

abbrev pub is_exponent_letter : ℕ → Bool
is_exponent_letter c = (c == letter_e) || (c == capital_e)

abbrev pub is_sign : ℕ → Bool
is_sign c = (c == plus_sign) || (c == minus_sign)

abbrev pub AreDigits : List ℕ → Type 0
AreDigits [] = ⊤
AreDigits (d ∷ ds) = IsTrue (is_ascii_digit d) × AreDigits ds

pub record IsExponent (e : Exponent) : Type 0 where
  pub letter : IsTrue (is_exponent_letter e.letter)
  pub sign : IfSome e.sign (λ c. IsTrue (is_sign c))
  pub digits : AreDigits e.digits
  pub some_digit : 0 < length e.digits

pub record IsNumeral (n : Numeral) : Type 0 where
  pub integer : AreDigits n.integer
  pub some_digit : 0 < length n.integer
  pub fraction : AreDigits n.fraction
  pub exponent : IfSome n.exponent IsExponent

-- two or more digits that begin with 0
abbrev pub has_leading_zero : List ℕ → Bool
has_leading_zero [] = false
has_leading_zero (d ∷ []) = false
has_leading_zero (d ∷ e ∷ ds) = d == digit_zero

abbrev pub signed : Option ℕ → ℕ → ℤ
signed None n = pos n
signed (Some c) n = cond (c == minus_sign) (neg_ℤ (pos n)) (pos n)

-- what the exponent says, a number of any size
abbrev pub exponent_value : Option Exponent → ℤ
exponent_value None = pos 0
exponent_value (Some e) = signed e.sign (digits_value 10 e.digits)

-- the power of ten after the last digit that is not 0
abbrev pub power_of : Numeral → ℤ
power_of n = (exponent_value n.exponent -ℤ pos (length n.fraction)) +ℤ pos (trailing_zeros (n.integer ++ n.fraction))

unfoldable pub value : Numeral → Decimal
value n = decimal_of n.negative (significant (n.integer ++ n.fraction)) (power_of n)

-- the power fits the width
unfoldable pub power_fits : Width → ℤ → Bool
power_fits width power = int_le (neg_ℤ (pos (2 ^ hbits width))) power && int_lt power (pos (2 ^ hbits width))

abbrev pub fits_in : Width → Decimal → Bool
fits_in width d = power_fits width d.power

-- how wide the powers of ten are
abbrev pub power_width : Width
power_width = w64

abbrev pub in_range : Decimal → Bool
in_range d = fits_in power_width d
