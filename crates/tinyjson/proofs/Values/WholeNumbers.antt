-- Two whole numbers with one decimal are one.
use Rattle.std.proofs.Common.{◌≡◌, ℕ, suc, ◌^◌, ◌<◌, Bool, true, false, ℤ, pos, negsuc, sym, ap, ◌∙◌, arith}
use Rattle.std.specs.Int.{w64}
use Rattle.std.specs.Prelude.{FitsSigned}
use Rattle.std.proofs.lemmas.Bool.{false≢true}
use Rattle.std.proofs.lemmas.Int.{ints}
use Rattle.tinyjson_number.specs.Decimal.{Decimal}
use Rattle.tinyjson_number.specs.Integer.{whole_decimal, integer_decimal}
use Rattle.tinyjson_number.proofs.Callers.{magnitude_whole, magnitude_of, negative_whole}

same_magnitude : (b c : Bool) (m n : ℕ) → m < 2 ^ 64 → n < 2 ^ 64 → whole_decimal b m ≡ whole_decimal c n → m ≡ n
same_magnitude b c m n fm fn e = sym (magnitude_whole b m fm) ∙ ap magnitude_of e ∙ magnitude_whole c n fn

signs_differ : (m n : ℕ) → m < 2 ^ 64 → suc n < 2 ^ 64 → whole_decimal false m ≡ whole_decimal true (suc n) → ⊥
signs_differ m n fm fn e =
    let q : m ≡ suc n = same_magnitude false true m (suc n) fm fn e in
    false≢true (sym (negative_whole false m (omega (arith, q)) fm) ∙ ap (λ (d : Decimal). d.negative) e
    ∙ negative_whole true (suc n) (omega arith) fn)

-- two integers of `i64` with one decimal are one
pub integers_differ : (z w : ℤ) → FitsSigned w64 z → FitsSigned w64 w → integer_decimal z ≡ integer_decimal w → z ≡ w
integers_differ (pos m) (pos n) h k e = ap pos (same_magnitude false false m n (omega (arith, ints, h)) (omega (arith, ints, k)) e)
integers_differ (pos m) (negsuc n) h k e = absurd (signs_differ m n (omega (arith, ints, h)) (omega (arith, ints, k)) e)
integers_differ (negsuc m) (pos n) h k e = absurd (signs_differ n m (omega (arith, ints, k)) (omega (arith, ints, h)) (sym e))
integers_differ (negsuc m) (negsuc n) h k e =
    let q : suc m ≡ suc n = same_magnitude true true (suc m) (suc n) (omega (arith, ints, h)) (omega (arith, ints, k)) e in
    let r : m ≡ n = omega (arith, q) in
    ap negsuc r

-- and so are two of `u64`
pub naturals_differ : (m n : ℕ) → m < 2 ^ 64 → n < 2 ^ 64 → integer_decimal (pos m) ≡ integer_decimal (pos n) → m ≡ n
naturals_differ m n h k e = same_magnitude false false m n h k e
