use Rattle.std.proofs.Common.{◌≤◌, ◌-◌, length, take}
use Rattle.tinyjson_diff.proofs.Items.{RemovesLast}
use Rattle.tinyjson_diff.specs.Steps.{actions_of}
use Rattle.tinyjson_diff.proofs.patch.removed_items.Given as goal

abbrev pub invariant-loop-count : goal.invariant-loop-count
invariant-loop-count l =
    (l.count ≤ length l.before) × RemovesLast l.before l.after (take l.count l.before) (actions_of l.steps.items)

abbrev pub decreases-loop-count : goal.decreases-loop-count
decreases-loop-count l = l.count - length l.after
