use Rattle.std.proofs.Common.{◌≡◌, ◌+◌, ◌&&◌}
use Rattle.tinyjson_document.specs.Comparing.{rest_eq, rests_eq, rest_weight, total}
use Rattle.tinyjson_document.proofs.equality.compare_all.Given as goal

abbrev pub invariant-loop-stack : goal.invariant-loop-stack
invariant-loop-stack g l = rest_eq g.V.Other.tree l.rest && rests_eq g.V.Other.tree l.stack.items
    ≡ rest_eq g.V.Other.tree l.initial.rest

abbrev pub decreases-loop-stack : goal.decreases-loop-stack
decreases-loop-stack g l = rest_weight l.rest + total l.stack.items
