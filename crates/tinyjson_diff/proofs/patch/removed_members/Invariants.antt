use Rattle.std.proofs.Common.{drop}
use Rattle.tinyjson_document.specs.Parts.{members_in}
use Rattle.tinyjson_view.specs.Views.{tree_of, members_of}
use Rattle.tinyjson_diff.proofs.Members.{RemovesPassed}
use Rattle.tinyjson_diff.specs.Steps.{actions_of}
use Rattle.tinyjson_diff.proofs.patch.removed_members.Given as goal

abbrev pub invariant-loop-member : goal.invariant-loop-member
invariant-loop-member l =
    RemovesPassed (members_in (tree_of l.fn.before)) (members_in (tree_of l.after)) (members_of (drop l.member-index l.member-items))
    (actions_of l.steps.items)
