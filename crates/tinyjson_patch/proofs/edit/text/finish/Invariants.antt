use Rattle.tinyjson.specs.Written.{Written}
use Rattle.tinyjson_patch.specs.private.Text.{stack_bytes, stack_weight}
use Rattle.tinyjson_patch.proofs.edit.text.finish.Given as goal

abbrev pub invariant-loop-rest : goal.invariant-loop-rest
invariant-loop-rest g l =
    Written (g.W.Write.contents l.initial.output) (g.W.Write.contents l.output) (stack_bytes l.initial.stack.items)
    (stack_bytes l.stack.items)

abbrev pub decreases-loop-rest : goal.decreases-loop-rest
decreases-loop-rest g l = stack_weight l.stack.items
