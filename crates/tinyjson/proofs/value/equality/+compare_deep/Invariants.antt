use Rattle.std.proofs.Common.{◌≡◌, ◌≤◌}
use Rattle.tinyjson.specs.private.Comparison.{rest_eq, rest_weight}
use Rattle.tinyjson.proofs.value.equality.+compare_deep.Given as goal

abbrev pub invariant-loop-same : goal.invariant-loop-same
invariant-loop-same l = (rest_eq l.rest ≡ rest_eq l.initial.rest) × (rest_weight l.rest ≤ rest_weight l.initial.rest)

abbrev pub decreases-loop-same : goal.decreases-loop-same
decreases-loop-same l = rest_weight l.rest

abbrev pub decreases-compare_deep : goal.decreases-compare_deep
decreases-compare_deep l = rest_weight l.rest
