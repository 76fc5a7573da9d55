use Rattle.std.proofs.Common.{◌≡◌, ◌<◌, ◌≤◌, ◌-◌, ◌^◌, ℕ, length, sym, ap, ◌∙◌, arith, append-nil}
use Rattle.std.specs.Prelude.{decimal}
use Rattle.std.specs.Int.{w64}
use Rattle.std.proofs.lemmas.Int.{to_z_pos}
use Rattle.std.proofs.lemmas.Fmt.{length-decimal-le}
use Rattle.tinyjson_number.specs.Decimal.{strip_trailing}
use Rattle.tinyjson_number.specs.Integer.{whole_decimal}
use Rattle.tinyjson_number.proofs.Integers.{zero_is, whole_is, whole_fits}
use Rattle.tinyjson_number.proofs.integer.from_magnitude.Goals as goal

pub returns-then-value-eq0-clause-decimal : goal.returns-then-value-eq0-clause-decimal
returns-then-value-eq0-clause-decimal c = c.zero.ensures ∙ zero_is c.args.negative
    ∙ ap (whole_decimal c.args.negative) (sym c.if-value-eq0.true)

pub of_digits-requires-clause-canonical : goal.of_digits-requires-clause-canonical
of_digits-requires-clause-canonical c = let n = c.args.value in
    let fits : n < 2 ^ 64 = omega arith in
    let s = c.strip_trailing-kept.result.now in
    let text = c.value_digits-digits.ensures in
    let is : s ≡ strip_trailing (decimal n) = c.strip_trailing-kept.ensures.value ∙ ap strip_trailing text in
    let few : length c.value_digits-digits.result.now - length s ≤ length (decimal n) = omega (arith, ap length text) in
    grind (arith, append-nil, whole_fits)

pub returns-clause-decimal : goal.returns-clause-decimal
returns-clause-decimal c = let n = c.args.value in
    let fits : n < 2 ^ 64 = omega arith in
    let s = c.strip_trailing-kept.result.now in
    let z : ℕ = length c.value_digits-digits.result.now - length s in
    let text = c.value_digits-digits.ensures in
    let is : s ≡ strip_trailing (decimal n) = c.strip_trailing-kept.ensures.value ∙ ap strip_trailing text in
    let few : z ≤ length (decimal n) = omega (arith, ap length text) in
    let power = to_z_pos w64 z (omega (arith, few, length-decimal-le 20 n (omega arith) (omega arith) fits)) in
    let same = whole_is n (omega arith) fits c.args.negative s z is (omega (arith, ap length text)) in
    grind (arith, append-nil)

pub returns-clause-ok : goal.returns-clause-ok
returns-clause-ok c =
    let length_text = ap length c.value_digits-digits.ensures in
    let short = length-decimal-le 20 c.args.value (omega arith) (omega arith) (omega arith) in
    c.of_digits.ensures.few (omega (arith, length_text, c.strip_trailing-kept.ensures.within, short))
