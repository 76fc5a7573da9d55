use Rattle.std.proofs.Common.{◌≡◌, ◌≤◌}
use Rattle.tinyjson_document.specs.Comparing.{rest_eq, rest_weight}
use Rattle.tinyjson_document.proofs.equality.+compare_deep.Given as goal

abbrev pub invariant-loop-same : goal.invariant-loop-same
invariant-loop-same g l = (rest_eq g.V.Other.tree l.rest ≡ rest_eq g.V.Other.tree l.initial.rest)
    × (rest_weight l.rest ≤ rest_weight l.initial.rest)

abbrev pub decreases-loop-same : goal.decreases-loop-same
decreases-loop-same g l = rest_weight l.rest

abbrev pub decreases-compare_deep : goal.decreases-compare_deep
decreases-compare_deep g l = rest_weight l.rest
