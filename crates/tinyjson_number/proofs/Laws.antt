-- Laws of the texts of numbers.
use Rattle.std.proofs.Common.{◌≡◌, ℕ, ◌^◌, List, ℤ, pos, neg_ℤ, true, IsTrue, ◌&&◌, sym, ap, ◌∙◌, arith}
use Rattle.std.specs.Prelude.{int_le, int_lt}
use Rattle.std.specs.Int.{Width, w32}
use Rattle.std.proofs.lemmas.Int.{ints}
use Rattle.tinyjson_number.specs.Decimal.{Decimal}
use Rattle.tinyjson_number.specs.Numeral.{value, power_fits, power_width}
use Rattle.tinyjson_number.specs.Canonical.{IsDecimalAt}
use Rattle.tinyjson_number.specs.NumberText.{IsNumberTextAt}
use Rattle.tinyjson_number.specs.Text.{decimal_text}
use Rattle.tinyjson_number.proofs.Scans.{one_numeral}
use Rattle.tinyjson_number.proofs.DecimalTrip.{decimal_spelled, decimal_fits}

-- a text is a number of at most one decimal
pub one_decimal : (v w : Width) (text : List ℕ) (d e : Decimal) → IsNumberTextAt v text d → IsNumberTextAt w text e → d ≡ e
one_decimal v w text d e p q = sym p.2 ∙ ap value (one_numeral text p.0 q.0 p.1 q.1) ∙ q.2

-- the text of a decimal is a number of that decimal
pub text_is_number : (width : Width) (d : Decimal) → IsDecimalAt width d → IsNumberTextAt width (decimal_text d) d
text_is_number width d h = grind (arith, decimal_spelled, decimal_fits)

wider_bounds : (z : ℤ) → (int_le (neg_ℤ (pos (2 ^ 31))) z && int_lt z (pos (2 ^ 31))) ≡ true
    → (int_le (neg_ℤ (pos (2 ^ 63))) z && int_lt z (pos (2 ^ 63))) ≡ true
wider_bounds z h = grind (arith, ints)

pub wider_fits : (z : ℤ) → IsTrue (power_fits w32 z) → IsTrue (power_fits power_width z)
unfolding power_fits
wider_fits z h = wider_bounds z h
