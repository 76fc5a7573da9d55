use Rattle.tinyjson.specs.View.{view, members_view}
use Rattle.tinyjson_patch.specs.Merge.{members_of}
use Rattle.tinyjson_patch.proofs.Entries.{AreMerged}
use Rattle.tinyjson_patch.proofs.merge_patch.+merge_into.Given as goal

abbrev pub decreases-merge_into : goal.decreases-merge_into
decreases-merge_into l = goal.size-merge_into l

abbrev pub invariant-loop-key : goal.invariant-loop-key
invariant-loop-key l = AreMerged (members_of (view l.fn.target)) (members_view l.members.entries) l.initial.key-iterator l.key-iterator
