use Rattle.std.proofs.Common.{drop}
use Rattle.tinyjson.specs.View.{members_view}
use Rattle.tinyjson_document.specs.Comparing.{weight}
use Rattle.tinyjson_document.specs.Parts.{members_in}
use Rattle.tinyjson_view.specs.Views.{tree_of, members_of}
use Rattle.tinyjson_diff.specs.Changes.{members_had}
use Rattle.tinyjson_diff.proofs.Changing.{AreChanged}
use Rattle.tinyjson_diff.proofs.merge.+change.Given as goal

abbrev pub decreases-change : goal.decreases-change
decreases-change l = weight (tree_of l.new)

abbrev pub invariant-loop-member : goal.invariant-loop-member
invariant-loop-member l =
    AreChanged (members_had l.before) (members_in (tree_of l.fn.new)) (members_view l.changes.entries)
    (members_of (drop l.member-index l.member-items))
