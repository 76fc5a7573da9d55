use Rattle.std.proofs.Common.{length}
use Rattle.tinyjson_diff.proofs.Documents.{IsMaking}
use Rattle.tinyjson_diff.proofs.document.document.Given as goal

abbrev pub invariant-loop-step : goal.invariant-loop-step
invariant-loop-step l = IsMaking l.fn.steps.items l.rest.items l.items.items

abbrev pub decreases-loop-step : goal.decreases-loop-step
decreases-loop-step l = length l.rest.items
