use Rattle.std.proofs.Common.{◌<◌, length, ap, arith}
use Rattle.std.proofs.lemmas.List.{nil_from_length}
use Rattle.std.proofs.lemmas.Bool.Decides.{nat_tests}
use Rattle.tinyjson_number.specs.Decimal.{strip_leading, strip_trailing}
use Rattle.tinyjson_number.proofs.Strips.{strip_fraction_alone, strip_integer_alone, strip_both}
use Rattle.tinyjson_number.proofs.parse.strip.Goals as goal

pub returns-then-is_empty-clause-digits : goal.returns-then-is_empty-clause-digits
returns-then-is_empty-clause-digits c = grind (arith, nil_from_length, strip_fraction_alone)

pub returns-then-is_empty-clause-zeros : goal.returns-then-is_empty-clause-zeros
returns-then-is_empty-clause-zeros c = grind (arith, nil_from_length, strip_fraction_alone)

pub returns-then-is_empty-2-clause-digits : goal.returns-then-is_empty-2-clause-digits
returns-then-is_empty-2-clause-digits c = grind (arith, nil_from_length, strip_integer_alone)

pub returns-then-is_empty-2-clause-zeros : goal.returns-then-is_empty-2-clause-zeros
returns-then-is_empty-2-clause-zeros c = grind (arith, nil_from_length, strip_integer_alone)

pub returns-clause-digits : goal.returns-clause-digits
returns-clause-digits c = grind (arith, strip_both)

pub returns-clause-zeros : goal.returns-clause-zeros
returns-clause-zeros c =
    let w = c.args.integer.now in
    let f = c.args.fraction.now in
    let some : 0 < length (strip_leading w) = grind (arith, nat_tests, ap length c.strip_leading-integer.ensures.value) in
    let kept : 0 < length (strip_trailing f) = grind (arith, nat_tests, ap length c.strip_trailing-kept.ensures.value) in
    rw (c.strip_trailing-kept.ensures.value) ((strip_both w f some kept).1)
