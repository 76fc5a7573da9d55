use Rattle.std.proofs.Common.{drop}
use Rattle.tinyjson.specs.View.{members_view}
use Rattle.tinyjson_document.specs.Parts.{members_in}
use Rattle.tinyjson_view.specs.Views.{tree_of, members_of}
use Rattle.tinyjson_diff.specs.Changes.{members_had}
use Rattle.tinyjson_diff.proofs.Removing.{AreRemoved}
use Rattle.tinyjson_diff.proofs.merge.removals.Given as goal

abbrev pub invariant-loop-member : goal.invariant-loop-member
invariant-loop-member l =
    AreRemoved (members_had l.fn.before) (members_in (tree_of l.after)) (members_view l.removals.entries)
    (members_of (drop l.member-index l.member-items))
