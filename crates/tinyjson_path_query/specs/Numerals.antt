-- Which number a whole text is, from left to right; for private contracts.
use Rattle.std.specs.Prelude.{ℕ, Bool, true, false, ◌==◌, cond, List, [], ◌∷◌, Option, Some, None, option_and_then}
use Rattle.std.specs.Char.{is_ascii_digit}
use Rattle.tinyjson.specs.Characters.{minus_sign, decimal_point}
use Rattle.tinyjson.specs.Number.{Decimal}
use Rattle.tinyjson.specs.Numeral.{Numeral, numeral, has_leading_zero, is_exponent_letter, is_sign, value, in_range}

-- the digits at the front, and the text after them
abbrev pub digit_run : List ℕ → List ℕ × List ℕ
digit_run [] = ([], [])
digit_run (c ∷ cs) = cond (is_ascii_digit c) (c ∷ (digit_run cs).0, (digit_run cs).1) ([], c ∷ cs)

-- an exponent, after its letter l and its sign
abbrev pub power_end : Bool → List ℕ → List ℕ → ℕ → Option ℕ → List ℕ × List ℕ → Option Numeral
power_end b ds fs l s ([], rest) = None
power_end b ds fs l s (e ∷ es, []) = Some (numeral b ds fs (Some (record { letter = l; sign = s; digits = e ∷ es })))
power_end b ds fs l s (e ∷ es, c ∷ cs) = None

abbrev pub signed_end : Bool → List ℕ → List ℕ → ℕ → List ℕ → Option Numeral
signed_end b ds fs l [] = None
signed_end b ds fs l (c ∷ cs) =
    cond (is_sign c) (power_end b ds fs l (Some c) (digit_run cs)) (power_end b ds fs l None (digit_run (c ∷ cs)))

abbrev pub exponent_end : Bool → List ℕ → List ℕ → List ℕ → Option Numeral
exponent_end b ds fs [] = Some (numeral b ds fs None)
exponent_end b ds fs (c ∷ cs) = cond (is_exponent_letter c) (signed_end b ds fs c cs) None

-- a fraction, after the point
abbrev pub fraction_end : Bool → List ℕ → List ℕ × List ℕ → Option Numeral
fraction_end b ds ([], rest) = None
fraction_end b ds (f ∷ fs, rest) = exponent_end b ds (f ∷ fs) rest

abbrev pub point_end : Bool → List ℕ → List ℕ → Option Numeral
point_end b ds [] = Some (numeral b ds [] None)
point_end b ds (c ∷ cs) = cond (c == decimal_point) (fraction_end b ds (digit_run cs)) (exponent_end b ds [] (c ∷ cs))

abbrev pub whole_end : Bool → List ℕ × List ℕ → Option Numeral
whole_end b ([], rest) = None
whole_end b (d ∷ ds, rest) = cond (has_leading_zero (d ∷ ds)) None (point_end b (d ∷ ds) rest)

-- the numeral that the text spells
abbrev pub spelled_numeral : List ℕ → Option Numeral
spelled_numeral [] = None
spelled_numeral (c ∷ cs) = cond (c == minus_sign) (whole_end true (digit_run cs)) (whole_end false (digit_run (c ∷ cs)))

abbrev pub ranged : Numeral → Option Decimal
ranged n = cond (in_range (value n)) (Some (value n)) None

-- the decimal that the text spells
abbrev pub spelled_decimal : List ℕ → Option Decimal
spelled_decimal ds = option_and_then ranged (spelled_numeral ds)
