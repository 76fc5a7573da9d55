use Rattle.std.proofs.Common.{◌≡◌, length}
use Rattle.std.specs.Str.{chars}
use Rattle.tinyjson_diff.proofs.Steps.{IsAppending}
use Rattle.tinyjson_diff.proofs.step.append_of_member.Given as goal

abbrev pub invariant-loop-step : goal.invariant-loop-step
invariant-loop-step l = IsAppending (λ k. k ≡ chars l.key) l.fn.steps.items l.fn.inner.items l.rest.items l.steps.items

abbrev pub decreases-loop-step : goal.decreases-loop-step
decreases-loop-step l = length l.rest.items
