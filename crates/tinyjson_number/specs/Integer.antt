-- The decimal of a whole number.
use Rattle.std.specs.Prelude.{ℕ, suc, Bool, true, false, ℤ, pos, negsuc}
use Rattle.tinyjson_number.specs.Decimal.{Decimal, decimal_of, significant, trailing_zeros}
use Rattle.tinyjson_number.specs.Text.{natural_text}

-- the decimal of the digits that write n
abbrev pub whole_decimal : Bool → ℕ → Decimal
whole_decimal negative n = decimal_of negative (significant (natural_text n)) (pos (trailing_zeros (natural_text n)))

abbrev pub integer_decimal : ℤ → Decimal
integer_decimal (pos n) = whole_decimal false n
integer_decimal (negsuc n) = whole_decimal true (suc n)
