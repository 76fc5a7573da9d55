use Rattle.std.proofs.Common.{◌<◌, ◌≤◌, ◌++◌, length, ap, arith, length-append}
use Rattle.std.proofs.lemmas.Int.{ints}
use Rattle.std.proofs.lemmas.List.{nil_from_length}
use Rattle.tinyjson_number.proofs.DecimalTrip.{digits_join}
use Rattle.tinyjson_number.proofs.Readings.{kept_is, zero_value, zero_in_range, value_exact, value_fits, power_near, power_near_fits}
use Rattle.tinyjson_number.proofs.parse.short.Goals as goal

pub returns-then-kept-eq0 : goal.returns-then-kept-eq0
returns-then-kept-eq0 c = grind (arith, nil_from_length, zero_value, zero_in_range)

pub of_few-requires-clause-canonical : goal.of_few-requires-clause-canonical
of_few-requires-clause-canonical c =
    let p = c.args.parts in
    let kept = c.strip-kept in
    let some : 0 < length (kept.result.integer.now ++ kept.result.fraction.now) =
    omega (arith, c.if-kept-eq0.false, length-append kept.result.integer.now kept.result.fraction.now) in
    let few : length p.fraction.now ≤ 24 = omega (arith, c.requires.few) in
    let left = kept.ensures.zeros (omega (arith, some, ap length kept.ensures.digits)) in
    let zeros : kept.result.zeros ≤ 24 = omega (arith, left, length-append p.integer.now p.fraction.now, c.requires.few) in
    let power = power_near c.args.exponent kept.result.zeros (length p.fraction.now) zeros few c.requires.near.0 c.requires.near.1 in
    let fits = power_near_fits c.args.exponent kept.result.zeros (length p.fraction.now) zeros few c.requires.near.0 c.requires.near.1 in
    rw power (kept_is p.negative (kept.result.integer.now ++ kept.result.fraction.now) _ some (p.integer.now ++ p.fraction.now)
    kept.ensures.digits (digits_join p.integer.now p.fraction.now c.requires.integer c.requires.fraction) fits)

pub returns : goal.returns
returns c = grind (arith, length-append, power_near, power_near_fits, value_exact, value_fits)

pub overflow_sub-power : goal.overflow_sub-power
overflow_sub-power c = omega (arith, ints)

pub overflow_add-power : goal.overflow_add-power
overflow_add-power c =
    let p = c.args.parts in
    let kept = c.strip-kept in
    let some : 0 < length (kept.result.integer.now ++ kept.result.fraction.now) =
    omega (arith, c.if-kept-eq0.false, length-append kept.result.integer.now kept.result.fraction.now) in
    let left = kept.ensures.zeros (omega (arith, some, ap length kept.ensures.digits)) in
    let zeros : kept.result.zeros ≤ 24 = omega (arith, left, length-append p.integer.now p.fraction.now, c.requires.few) in
    omega (arith, ints, zeros)

pub overflow_cast-power : goal.overflow_cast-power
overflow_cast-power c = omega (arith, ints)

pub overflow_cast-power-2 : goal.overflow_cast-power-2
overflow_cast-power-2 c =
    let p = c.args.parts in
    let kept = c.strip-kept in
    let some : 0 < length (kept.result.integer.now ++ kept.result.fraction.now) =
    omega (arith, c.if-kept-eq0.false, length-append kept.result.integer.now kept.result.fraction.now) in
    let left = kept.ensures.zeros (omega (arith, some, ap length kept.ensures.digits)) in
    let zeros : kept.result.zeros ≤ 24 = omega (arith, left, length-append p.integer.now p.fraction.now, c.requires.few) in
    omega (arith, ints, zeros)
