use Rattle.std.proofs.Common.{◌≡◌, ◌≤◌}
use Rattle.tinyjson.specs.private.Comparison.{rest_eq, rest_weight}
use Rattle.tinyjson.proofs.value.equality.+compare_near.Given as goal

abbrev pub invariant-loop-same : goal.invariant-loop-same
invariant-loop-same l = (rest_eq l.rest ≡ rest_eq l.initial.rest) × (rest_weight l.rest ≤ rest_weight l.initial.rest)

abbrev pub decreases-loop-same : goal.decreases-loop-same
decreases-loop-same l = rest_weight l.rest

abbrev pub decreases-compare_near : goal.decreases-compare_near
decreases-compare_near l = rest_weight l.rest
