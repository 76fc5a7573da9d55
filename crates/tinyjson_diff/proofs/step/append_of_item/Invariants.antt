use Rattle.std.proofs.Common.{◌≡◌, Some, length}
use Rattle.tinyjson_pointer.specs.Index.{index_of}
use Rattle.tinyjson_diff.proofs.Steps.{IsAppending}
use Rattle.tinyjson_diff.proofs.step.append_of_item.Given as goal

abbrev pub invariant-loop-step : goal.invariant-loop-step
invariant-loop-step l = IsAppending (λ k. index_of k ≡ Some l.index) l.fn.steps.items l.fn.inner.items l.rest.items l.steps.items

abbrev pub decreases-loop-step : goal.decreases-loop-step
decreases-loop-step l = length l.rest.items
