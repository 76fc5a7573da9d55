-- An exact decimal number.
use Rattle.std.specs.Prelude.{ℕ, ◌-◌, ◌==◌, ℤ, pos, Bool, false, cond, List, [], ◌∷◌, length}
use Rattle.tinyjson_number.specs.Characters.{digit_zero}

-- The sign, the digits as characters, and the power of ten.
pub record Decimal : Type 0 where
  pub negative : Bool
  pub digits : List ℕ
  pub power : ℤ

-- the digits from the first that is not 0 on
abbrev pub strip_leading : List ℕ → List ℕ
strip_leading [] = []
strip_leading (d ∷ ds) = cond (d == digit_zero) (strip_leading ds) (d ∷ ds)

-- puts a digit before stripped digits: a 0 before nothing is stripped too
abbrev pub before_stripped : ℕ → List ℕ → List ℕ
before_stripped d [] = cond (d == digit_zero) [] (d ∷ [])
before_stripped d (e ∷ es) = d ∷ e ∷ es

-- the digits up to the last that is not 0
abbrev pub strip_trailing : List ℕ → List ℕ
strip_trailing [] = []
strip_trailing (d ∷ ds) = before_stripped d (strip_trailing ds)

-- the digits without the zeros at both ends
abbrev pub significant : List ℕ → List ℕ
significant ds = strip_trailing (strip_leading ds)

-- how many zeros the digits end with
abbrev pub trailing_zeros : List ℕ → ℕ
trailing_zeros ds = length ds - length (strip_trailing ds)

-- zero has no digits, no sign and no power
abbrev pub zero_decimal : Decimal
zero_decimal = record { negative = false; digits = []; power = pos 0 }

-- the decimal of a sign, stripped digits and a power
abbrev pub decimal_of : Bool → List ℕ → ℤ → Decimal
decimal_of negative [] power = zero_decimal
decimal_of negative (d ∷ ds) power = record { negative = negative; digits = d ∷ ds; power = power }
