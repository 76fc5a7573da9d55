-- Whole numbers and their decimals.
use Rattle.std.proofs.Common.{◌≡◌, ℕ, ◌*◌, ◌^◌, Bool, List, [], ◌∷◌, pos, refl, sym, ap, ◌∙◌}
use Rattle.std.specs.Str.Parse.{digits_value}
use Rattle.std.specs.Prelude.{unsigned_abs}
use Rattle.tinyjson_number.specs.Decimal.{Decimal, decimal_of, significant, trailing_zeros}
use Rattle.tinyjson_number.specs.Integer.{whole_decimal}
use Rattle.tinyjson_number.specs.Number.{same_canonical}
use Rattle.tinyjson_number.specs.Text.{natural_text}
use Rattle.tinyjson_number.proofs.Callers.{magnitude_whole, negative_whole}
use Rattle.tinyjson.proofs.Callers as callers
use Rattle.tinyjson_laws.specs.Numbers.{OneNumber, WholeNumberValue, IntegersDiffer, NaturalsDiffer}

pub one_number : OneNumber
one_number x y e = same_canonical x y e

-- ---- what the decimal means

some_power : (negative : Bool) (ds : List ℕ) (z : ℕ) → (p : ℕ) × ((decimal_of negative ds (pos z)).power ≡ pos p)
some_power negative [] z = (0, refl)
some_power negative (d ∷ ds) z = (z, refl)

pub whole_number_value : WholeNumberValue
whole_number_value negative n fits =
    let d : Decimal = whole_decimal negative n in
    let p = some_power negative (significant (natural_text n)) (trailing_zeros (natural_text n)) in (
      p.0,
      p.1,
      ap (λ z. digits_value 10 d.digits * 10 ^ unsigned_abs z) (sym p.1) ∙ magnitude_whole negative n fits,
      λ some. negative_whole negative n some fits,
    )

-- ---- two integers with one decimal are one

pub integers_differ : IntegersDiffer
integers_differ z w h k e = callers.integers_differ z w h k e

pub naturals_differ : NaturalsDiffer
naturals_differ m n h k e = callers.naturals_differ m n h k e
