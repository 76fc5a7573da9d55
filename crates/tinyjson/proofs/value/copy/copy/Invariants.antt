use Rattle.std.proofs.Common.{◌≡◌, ◌+◌}
use Rattle.tinyjson.proofs.value.copy.copy.Given as goal
use Rattle.tinyjson.specs.private.Copy.{filled_all, step_view, step_weight, stack_weight}
use Rattle.tinyjson.specs.View.{view}

abbrev pub invariant-loop-step : goal.invariant-loop-step
invariant-loop-step l = filled_all l.stack.items (step_view l.step) ≡ view l.value

abbrev pub decreases-loop-step : goal.decreases-loop-step
decreases-loop-step l = step_weight l.step + stack_weight l.stack.items
