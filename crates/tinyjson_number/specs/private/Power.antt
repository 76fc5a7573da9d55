-- Exponents as the code keeps them.
use Rattle.std.specs.Prelude.{ℕ, ◌^◌, min, Option, Some, None, ℤ, pos, ◌+ℤ◌, ◌-ℤ◌}
use Rattle.std.specs.Str.Parse.{digits_value}
use Rattle.tinyjson_number.specs.Numeral.{Exponent, signed}

-- past the range of powers by more than any count of digits
abbrev pub exponent_cap : ℕ
exponent_cap = 2 ^ 66

-- below this an exponent is near 0
abbrev pub near_cap : ℕ
near_cap = 2 ^ 32

-- the exponent as the code keeps it
abbrev pub capped : Option Exponent → ℤ
capped None = pos 0
capped (Some e) = signed e.sign (min (digits_value 10 e.digits) exponent_cap)

-- the power of the stripped digits
abbrev pub shifted : ℤ → ℕ → ℕ → ℤ
shifted exponent fraction zeros = (exponent -ℤ pos fraction) +ℤ pos zeros
