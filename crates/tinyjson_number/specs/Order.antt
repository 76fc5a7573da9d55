-- The order of decimals.
use Rattle.std.specs.Prelude.{ℕ, ◌*◌, ◌^◌, ℤ, pos, neg_ℤ, Bool, cond, nat_le, int_le, int_lt, length, ◌+ℤ◌}
use Rattle.std.specs.Int.{int_gap}
use Rattle.std.specs.Str.Parse.{digits_value}
use Rattle.tinyjson_number.specs.Decimal.{Decimal}

-- How many units are in d without its sign; the unit is the lower of the powers of ten of d and e.
unfoldable pub units : Decimal → Decimal → ℕ
units d e = digits_value 10 d.digits * 10 ^ int_gap e.power d.power

abbrev pub signed_units : Decimal → Decimal → ℤ
signed_units d e = cond d.negative (neg_ℤ (pos (units d e))) (pos (units d e))

-- d ≤ e, as numbers of one unit
abbrev pub is_at_most : Decimal → Decimal → Bool
is_at_most d e = int_le (signed_units d e) (signed_units e d)

-- d < e
abbrev pub is_less : Decimal → Decimal → Bool
is_less d e = int_lt (signed_units d e) (signed_units e d)

-- d ≤ e without the signs
abbrev pub is_magnitude_at_most : Decimal → Decimal → Bool
is_magnitude_at_most d e = nat_le (units d e) (units e d)

-- the least power of ten that is greater than d without its sign; d is not zero
abbrev pub first_place : Decimal → ℤ
first_place d = pos (length d.digits) +ℤ d.power
