use Rattle.std.proofs.Common.{◌<◌, length, get_or, arith}
use Rattle.std.specs.Int.{IsInRange}
use Rattle.std.proofs.lemmas.Int.Digits.{digits_value_more}
use Rattle.std.proofs.lemmas.Str.{digit_value_digit}
use Rattle.tinyjson_number.proofs.Runs.{digit_at, range_from_digit}
use Rattle.tinyjson_number.proofs.parse.near_value.Goals as goal

pub overflow_sub-b : goal.overflow_sub-b
overflow_sub-b c = (range_from_digit _ (digit_at c.args.digits.now c.loop-b.b-index c.requires (omega arith))).0

pub loop-b-preserved : goal.loop-b-preserved
loop-b-preserved c =
    let i = c.loop-b.b-index in
    let ds = c.args.digits.now in
    let lt : i < length ds = omega arith in
    let digit : IsInRange 48 57 (get_or ds i 0) = range_from_digit _ (digit_at ds i c.requires lt) in
    omega (arith, digits_value_more 10 ds i lt, digit_value_digit _ digit, c.min-value.ensures)
