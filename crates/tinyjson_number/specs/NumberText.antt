-- Which texts are numbers, and the decimal of each (RFC 8259, section 6).
use Rattle.std.specs.Prelude.{◌≡◌, ℕ, false, List, IsTrue}
use Rattle.std.specs.Int.{Width}
use Rattle.tinyjson_number.specs.Decimal.{Decimal}
use Rattle.tinyjson_number.specs.Numeral.{Numeral, IsNumeral, has_leading_zero, spelling, value, fits_in, power_width}

-- the text is the spelling of that number of the grammar
pub record Spells (n : Numeral) (text : List ℕ) : Type 0 where
  pub well_formed : IsNumeral n
  pub no_leading_zero : has_leading_zero n.integer ≡ false
  pub spelled : spelling n ≡ text

-- the text is a number of the grammar with that decimal, whose power of ten fits the width
abbrev pub IsNumberTextAt : Width → List ℕ → Decimal → Type 0
IsNumberTextAt width text d = (n : Numeral) × Spells n text × (value n ≡ d) × IsTrue (fits_in width d)

abbrev pub IsNumberText : List ℕ → Decimal → Type 0
IsNumberText text d = IsNumberTextAt power_width text d
