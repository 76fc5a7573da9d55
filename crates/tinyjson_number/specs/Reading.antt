-- What reading a number returns.
use Rattle.std.specs.Prelude.{◌≡◌, ◌==◌, ℕ, Bool, List, false, IsTrue, Option, Some, None, Result, Ok, Err, if◌then◌else◌}
use Rattle.tinyjson_number.specs.Decimal.{Decimal}
use Rattle.tinyjson_number.specs.Numeral.{Numeral, Exponent, value, in_range}
use Rattle.tinyjson_number.specs.NumberText.{Spells, IsNumberText}
use Rattle.tinyjson_number.specs.Number.{Canonical}
use Rattle.tinyjson_number.specs.declared.error.LiteralError.{LiteralError}
use Rattle.tinyjson_number.specs.declared.error.LiteralError.TheVariants as literal
use Rattle.tinyjson_number.specs.declared.error.JsonNumberError.{JsonNumberError}
use Rattle.tinyjson_number.specs.declared.error.JsonNumberError.TheVariants.{NotANumber, OutOfRange, OutOfMemory}
use Rattle.tinyjson_number.specs.declared.parse.NumberParts.{NumberParts}
use Rattle.tinyjson_number.specs.declared.parse.ExponentParts.{ExponentParts}
use Rattle.tinyjson_number.specs.Characters.{letter_e, minus_sign}

-- the exponent of these parts, with the letter e and without a plus sign
abbrev pub exponent_of : Option ExponentParts → Option Exponent
exponent_of None = None
exponent_of (Some e) = Some (record { letter = letter_e; sign = if e.negative then Some minus_sign else None; digits = e.digits.now })

-- the numeral of these parts
abbrev pub numeral_of : NumberParts → Numeral
numeral_of p = record { negative = p.negative; integer = p.integer.now; fraction = p.fraction.now; exponent = exponent_of p.exponent }

-- the same sign, or none for a plus sign
abbrev pub plain_sign : Option ℕ → Option ℕ
plain_sign None = None
plain_sign (Some c) = if c == minus_sign then Some minus_sign else None

abbrev pub plain_exponent : Option Exponent → Option Exponent
plain_exponent None = None
plain_exponent (Some e) = Some (record { letter = letter_e; sign = plain_sign e.sign; digits = e.digits })

-- the same numeral, its exponent with the letter e and without a plus sign
abbrev pub plain : Numeral → Numeral
plain n = record { negative = n.negative; integer = n.integer; fraction = n.fraction; exponent = plain_exponent n.exponent }

-- the numeral without an exponent
abbrev pub plain_numeral : Bool → List ℕ → List ℕ → Numeral
plain_numeral negative integer fraction = record { negative = negative; integer = integer; fraction = fraction; exponent = None }

-- of any text: a number only with the decimal of the text, and each error only of such a text
abbrev pub Reads : List ℕ → Result Canonical JsonNumberError → Type 0
Reads text (Ok x) = IsNumberText text x.decimal
Reads text (Err NotANumber) = (n : Numeral) → ¬ Spells n text
Reads text (Err OutOfRange) = (n : Numeral) × Spells n text × (in_range (value n) ≡ false)
Reads text (Err OutOfMemory) = (d : Decimal) × IsNumberText text d

-- of a text that spells the numeral
abbrev pub ReadsNumeral : Numeral → Result Canonical LiteralError → Type 0
ReadsNumeral n (Ok x) = (x.decimal ≡ value n) × IsTrue (in_range (value n))
ReadsNumeral n (Err literal.OutOfRange) = in_range (value n) ≡ false
ReadsNumeral n (Err literal.OutOfMemory) = IsTrue (in_range (value n))
