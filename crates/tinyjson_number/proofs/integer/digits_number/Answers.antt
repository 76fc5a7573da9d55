use Rattle.std.proofs.Common.{arith}
use Rattle.std.proofs.lemmas.List.{take_all}
use Rattle.tinyjson_number.proofs.Runs.{digit_at, range_from_digit}
use Rattle.tinyjson_number.proofs.Integers.{step_within}
use Rattle.tinyjson_number.proofs.integer.digits_number.Goals as goal

pub overflow_sub-d : goal.overflow_sub-d
overflow_sub-d c = (range_from_digit _ (digit_at c.args.digits.now c.loop-d.d-index c.requires (omega arith))).0

pub returns-in_default : goal.returns-in_default
returns-in_default c = λ fits. let s = step_within c.args.digits.now c.loop-d.d-index c.requires (omega arith) in
    c.in_default.ensures (omega (arith, s.0, s.1, fits))

pub returns-in_default-checked_add : goal.returns-in_default-checked_add
returns-in_default-checked_add c = λ fits. let s = step_within c.args.digits.now c.loop-d.d-index c.requires (omega arith) in
    c.in_default-checked_add.ensures (omega (arith, s.0, s.1, fits, c.in-Some.ensures.1))

pub loop-d-preserved : goal.loop-d-preserved
loop-d-preserved c = grind (arith, step_within)

pub returns : goal.returns
returns c = grind (arith, take_all)
