-- The one form of each decimal.
use Rattle.std.specs.Prelude.{ℕ, ℤ, pos, Bool, true, not, ◌&&◌, ◌==◌, List, [], ◌∷◌, IsTrue}
use Rattle.std.specs.Ordering.{int_eq}
use Rattle.std.specs.Str.{all_ascii_digits}
use Rattle.std.specs.Int.{Width}
use Rattle.tinyjson_number.specs.Decimal.{Decimal}
use Rattle.tinyjson_number.specs.Numeral.{power_fits, power_width}
use Rattle.tinyjson_number.specs.Characters.{digit_zero}

abbrev pub starts_without_zero : List ℕ → Bool
starts_without_zero [] = true
starts_without_zero (c ∷ cs) = not (c == digit_zero)

-- the last of c and what follows it is not 0
abbrev pub ends_nonzero : ℕ → List ℕ → Bool
ends_nonzero c [] = not (c == digit_zero)
ends_nonzero c (d ∷ ds) = ends_nonzero d ds

abbrev pub ends_without_zero : List ℕ → Bool
ends_without_zero [] = true
ends_without_zero (c ∷ cs) = ends_nonzero c cs

-- zero, which has no sign and no power, or digits that neither begin nor end with 0, and a power that fits the width
abbrev pub is_canonical_at : Width → Bool → List ℕ → ℤ → Bool
is_canonical_at width negative [] power = not negative && int_eq power (pos 0)
is_canonical_at width negative (c ∷ cs) power =
    power_fits width power && (all_ascii_digits (c ∷ cs) && (starts_without_zero (c ∷ cs) && ends_without_zero (c ∷ cs)))

abbrev pub IsDecimalAt : Width → Decimal → Type 0
IsDecimalAt width d = IsTrue (is_canonical_at width d.negative d.digits d.power)

abbrev pub is_canonical : Bool → List ℕ → ℤ → Bool
is_canonical negative digits power = is_canonical_at power_width negative digits power

abbrev pub IsDecimal : Decimal → Type 0
IsDecimal d = IsDecimalAt power_width d
