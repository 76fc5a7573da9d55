use Rattle.std.proofs.Common.{◌≡◌, ◌+◌, ◌&&◌}
use Rattle.tinyjson.specs.private.Comparison.{rest_eq, rests_eq, rest_weight, rests_weight}
use Rattle.tinyjson.proofs.value.equality.compare_all.Given as goal

abbrev pub invariant-loop-stack : goal.invariant-loop-stack
invariant-loop-stack l = rest_eq l.rest && rests_eq l.stack.items ≡ rest_eq l.initial.rest

abbrev pub decreases-loop-stack : goal.decreases-loop-stack
decreases-loop-stack l = rest_weight l.rest + rests_weight l.stack.items
