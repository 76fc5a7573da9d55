-- Laws of numbers: a decimal, and the texts that spell it.
use Rattle.std.specs.Prelude.{◌≡◌, ◌↔◌, ℕ, ◌*◌, ◌^◌, ◌<◌, Bool, List, ℤ, pos, FitsSigned}
use Rattle.std.specs.Int.{w64}
use Rattle.std.specs.Str.Parse.{digits_value}
use Rattle.tinyjson_number.specs.Integer.{whole_decimal, integer_decimal}
use Rattle.tinyjson_number.specs.declared.number.JsonNumber.{JsonNumber}
use Rattle.tinyjson_number.specs.Decimal.{Decimal}
use Rattle.tinyjson_number.specs.Canonical.{IsDecimal}
use Rattle.tinyjson_number.specs.NumberText.{IsNumberText}
use Rattle.tinyjson_number.specs.Text.{decimal_text}

-- a text spells at most one decimal
abbrev pub OneDecimal : Type 0
OneDecimal = (text : List ℕ) (d e : Decimal) → IsNumberText text d → IsNumberText text e → d ≡ e

-- a decimal has the one form exactly if some text spells it
abbrev pub DecimalsHaveTexts : Type 0
DecimalsHaveTexts = (d : Decimal) → IsDecimal d ↔ ((text : List ℕ) × IsNumberText text d)

-- the text of a decimal spells it
abbrev pub DecimalReadsBack : Type 0
DecimalReadsBack = (d : Decimal) → IsDecimal d → IsNumberText (decimal_text d) d

-- two decimals have one text exactly if they are one
abbrev pub SameDecimal : Type 0
SameDecimal = (d e : Decimal) → IsDecimal d → IsDecimal e → (decimal_text d ≡ decimal_text e) ↔ (d ≡ e)

-- two numbers with one decimal are one
abbrev pub OneNumber : Type 0
OneNumber = (x y : JsonNumber) → x.decimal ≡ y.decimal → x ≡ y

-- ---- whole numbers

-- the decimal of a whole number: what its digits say, times ten to its power, is the number, and its sign is the given one but for 0
abbrev pub WholeNumberValue : Type 0
WholeNumberValue =
    (negative : Bool) (n : ℕ) → n < 2 ^ 64 →
    (p : ℕ) × ((whole_decimal negative n).power ≡ pos p)
    × (digits_value 10 (whole_decimal negative n).digits * 10 ^ p ≡ n)
    × (0 < n → (whole_decimal negative n).negative ≡ negative)

-- two integers of `i64` with one decimal are one
abbrev pub IntegersDiffer : Type 0
IntegersDiffer =
    (z w : ℤ) → FitsSigned w64 z → FitsSigned w64 w → integer_decimal z ≡ integer_decimal w → z ≡ w

-- and so are two of `u64`
abbrev pub NaturalsDiffer : Type 0
NaturalsDiffer =
    (m n : ℕ) → m < 2 ^ 64 → n < 2 ^ 64 → integer_decimal (pos m) ≡ integer_decimal (pos n) → m ≡ n
