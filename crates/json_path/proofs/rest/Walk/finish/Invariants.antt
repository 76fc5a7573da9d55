use Rattle.std.proofs.Common.{[], length}
use Rattle.tinyjson.specs.Written.{Written}
use Rattle.json_path.specs.Left.{stack_bytes, stack_weight}
use Rattle.json_path.specs.Places.{has_path}
use Rattle.json_path.proofs.rest.Walk.finish.Given as goal

abbrev pub invariant-loop-left : goal.invariant-loop-left
invariant-loop-left g l =
    let gone = has_path l.self.places.now in
    Written (g.W.Write.contents l.initial.output) (g.W.Write.contents l.output) (stack_bytes gone l.initial.stack.items)
    (stack_bytes gone l.stack.items)

abbrev pub decreases-loop-left : goal.decreases-loop-left
decreases-loop-left g l = stack_weight l.stack.items
