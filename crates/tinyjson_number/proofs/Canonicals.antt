-- The value of a numeral has the one form.
use Rattle.std.proofs.Common.{◌≢◌, ℕ, ◌-◌, Bool, List, [], ◌∷◌, length, get_or, refl, IsTrue, ℤ}
use Rattle.std.specs.Int.{Width}
use Rattle.tinyjson_number.specs.Decimal.{decimal_of}
use Rattle.tinyjson_number.specs.Numeral.{Numeral, IsNumeral, AreDigits, value, fits_in}
use Rattle.tinyjson_number.specs.Canonical.{IsDecimalAt}
use Rattle.tinyjson_number.proofs.Strips.{first_leading, first_trailing, last_trailing, digits_leading, digits_trailing}
use Rattle.tinyjson_number.proofs.DecimalTrip.{digits_join}
use Rattle.tinyjson_number.proofs.Forms.{formed}

canonical : (width : Width) (g : Bool) (s : List ℕ) (p : ℤ) → AreDigits s → get_or s 0 0 ≢ 48 → get_or s (length s - 1) 0 ≢ 48
    → IsTrue (fits_in width (decimal_of g s p)) → IsDecimalAt width (decimal_of g s p)
canonical width g [] p d f l fits = refl
canonical width g (c ∷ cs) p d f l fits = formed width g c cs p (record { digits = d; first = f; last = l; fits = fits })

pub value_canonical : (width : Width) (n : Numeral) → IsNumeral n → IsTrue (fits_in width (value n)) → IsDecimalAt width (value n)
unfolding value
value_canonical width n h fits = search (
  canonical,
  digits_trailing,
  digits_leading,
  digits_join,
  first_trailing,
  first_leading,
  last_trailing,
)
