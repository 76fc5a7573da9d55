use Rattle.std.proofs.Common.{arith}
use Rattle.tinyjson_number.proofs.Integers.{ten_within, ten_next}
use Rattle.tinyjson_number.proofs.integer.times_ten.Goals as goal

pub returns-in_default : goal.returns-in_default
returns-in_default c = λ fits. c.in_default.ensures
    (omega (arith, c.loop-i.invariant.is, fits, ten_within c.args.number c.loop-i._i c.args.times (omega arith)))

pub loop-i-preserved : goal.loop-i-preserved
loop-i-preserved c = search (c.in-Some.ensures.1, c.loop-i.invariant.is, ten_next)

pub returns : goal.returns
returns c = grind arith
