use Rattle.std.proofs.Common.{◌+◌, ◌*◌, drop}
use Rattle.tinyjson_document.specs.Parts.{members_in}
use Rattle.tinyjson_view.specs.Views.{tree_of, members_of}
use Rattle.tinyjson_diff.proofs.Items.{ItemsPassed}
use Rattle.tinyjson_diff.proofs.Members.{AddsPassed}
use Rattle.tinyjson_diff.specs.Steps.{actions_of}
use Rattle.tinyjson_diff.proofs.patch.+changes.Given as goal

abbrev pub decreases-changes : goal.decreases-changes
decreases-changes l = 2 * l.room + 1

abbrev pub decreases-of_members : goal.decreases-of_members
decreases-of_members l = 2 * l.room + 2

abbrev pub decreases-of_items : goal.decreases-of_items
decreases-of_items l = 2 * l.room + 2

abbrev pub invariant-of_members-loop-member : goal.invariant-of_members-loop-member
invariant-of_members-loop-member l =
    AddsPassed l.room (members_in (tree_of l.fn.before)) (members_in (tree_of l.fn.after)) (members_of (drop l.member-index l.member-items))
    (actions_of l.steps.items)

abbrev pub invariant-of_items-loop-index : goal.invariant-of_items-loop-index
invariant-of_items-loop-index l = ItemsPassed l.room l.before l.after l.index (drop l.index l.left) (actions_of l.steps.items)
