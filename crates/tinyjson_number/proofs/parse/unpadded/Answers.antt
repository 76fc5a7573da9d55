use Rattle.std.proofs.Common.{◌≡◌, ◌<◌, ◌≤◌, ◌++◌, ℕ, List, length, refl, sym, ap, ◌∙◌, arith, length-append}
use Rattle.tinyjson_number.specs.Decimal.{significant, strip_leading, strip_trailing, trailing_zeros}
use Rattle.tinyjson_number.specs.Numeral.{Numeral}
use Rattle.tinyjson_number.specs.Reading.{plain_numeral}
use Rattle.tinyjson_number.proofs.DecimalTrip.{digits_join}
use Rattle.tinyjson_number.proofs.Readings.{kept_is, value_exact, value_fits, power_few, power_few_fits}
use Rattle.tinyjson_number.proofs.parse.unpadded.Goals as goal

-- digits from which nothing is stripped
bare_significant : (ds : List ℕ) → strip_leading ds ≡ ds → strip_trailing ds ≡ ds → ds ≡ significant ds
bare_significant ds lead trail = sym (ap strip_trailing lead ∙ trail)

bare_zeros : (ds : List ℕ) → strip_trailing ds ≡ ds → 0 ≡ trailing_zeros ds
bare_zeros ds trail = omega (arith, ap length trail)

pub of_inline-requires : goal.of_inline-requires
of_inline-requires c =
    let n : Numeral = plain_numeral c.args.negative c.args.integer.now c.args.fraction.now in
    let b = c.requires in
    let few : length n.fraction ≤ 24 = omega (arith, c.requires.few) in
    let some : 0 < length (n.integer ++ n.fraction) = omega (arith, b.some, length-append n.integer n.fraction) in
    let power = power_few 0 (length n.fraction) (omega arith) few in
    rw (b.digits, power) (kept_is n.negative (n.integer ++ n.fraction) _ some (n.integer ++ n.fraction) (bare_significant _ b.lead b.trail)
    (digits_join n.integer n.fraction c.requires.integer c.requires.fraction) (power_few_fits 0 (length n.fraction) (omega arith) few))

pub returns : goal.returns
returns c =
    let n : Numeral = plain_numeral c.args.negative c.args.integer.now c.args.fraction.now in
    let b = c.requires in
    let few : length n.fraction ≤ 24 = omega (arith, c.requires.few) in
    let some : 0 < length (n.integer ++ n.fraction) = omega (arith, b.some, length-append n.integer n.fraction) in
    let power = power_few 0 (length n.fraction) (omega arith) few in
    record {
      decimal = (rw (b.digits, power) at c.of_inline.ensures) ∙ value_exact n (n.integer ++ n.fraction) 0
          (bare_significant _ b.lead b.trail) some (bare_zeros _ b.trail) _ refl;
      fits = value_fits n (n.integer ++ n.fraction) 0 (bare_significant _ b.lead b.trail) some (bare_zeros _ b.trail) _ refl
          (power_few_fits 0 (length n.fraction) (omega arith) few);
    }
