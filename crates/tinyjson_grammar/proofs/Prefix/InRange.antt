-- Each numeral without exponent has an exponent with which its power is 0.
use Rattle.std.proofs.Common.{◌≡◌, ℕ, ◌-◌, ◌<◌, ◌≤◌, Bool, List, [], ◌∷◌, ◌++◌, length, Some, None, ℤ, pos, ◌+ℤ◌, ◌-ℤ◌, neg_ℤ, refl, arith}
use Rattle.std.proofs.Common.{IsTrue, ⊎_elim}
use Rattle.std.specs.Str.Parse.{digits_value}
use Rattle.std.proofs.lemmas.Bool.{cases_lt}
use Rattle.std.proofs.lemmas.Int.{ints}
use Rattle.tinyjson_number.specs.Decimal.{decimal_of, significant, trailing_zeros}
use Rattle.tinyjson_number.specs.Numeral.{numeral, Exponent, IsExponent, value, in_range, power_fits}
use Rattle.tinyjson_number.specs.Text.{natural_text}
use Rattle.tinyjson_number.proofs.Callers.{natural}
use Rattle.tinyjson_grammar.proofs.Trace.State.{Ranges, exponent_with}

power_range : (b : Bool) (ds : List ℕ) (z : ℤ) → z ≡ pos 0 → IsTrue (in_range (decimal_of b ds z))
unfolding power_fits
power_range b [] z h = refl
power_range b (d ∷ ds) z h = rw h refl

raised : (n l t : ℕ) → n ≡ l - t → t ≤ l → (pos n -ℤ pos l) +ℤ pos t ≡ pos 0
raised n l t e h = omega (arith, ints)

lowered : (n l t : ℕ) → n ≡ t - l → l ≤ t → (neg_ℤ (pos n) -ℤ pos l) +ℤ pos t ≡ pos 0
lowered n l t e h = omega (arith, ints)

pub ranges : Ranges
unfolding value
ranges b w f hw hf = ⊎_elim low high (cases_lt (length f) (trailing_zeros (w ++ f)))
  where
    low : length f < trailing_zeros (w ++ f) → (e : Exponent) × IsExponent e × IsTrue (in_range (value (numeral b w f (Some e))))
    low h = let n = trailing_zeros (w ++ f) - length f in let d = natural n in (
      exponent_with 101 (Some 45) (natural_text n),
      record { letter = refl; sign = refl; digits = d.are; some_digit = d.some },
      power_range b (significant (w ++ f)) _ (lowered (digits_value 10 (natural_text n)) (length f) (trailing_zeros (w ++ f)) d.value
          (omega arith)),
    )

    high : trailing_zeros (w ++ f) ≤ length f → (e : Exponent) × IsExponent e × IsTrue (in_range (value (numeral b w f (Some e))))
    high h = let n = length f - trailing_zeros (w ++ f) in let d = natural n in (
      exponent_with 101 None (natural_text n),
      record { letter = refl; sign = tt; digits = d.are; some_digit = d.some },
      power_range b (significant (w ++ f)) _ (raised (digits_value 10 (natural_text n)) (length f) (trailing_zeros (w ++ f)) d.value
          (omega arith)),
    )
