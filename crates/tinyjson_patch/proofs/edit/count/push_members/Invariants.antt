use Rattle.std.proofs.Common.{length}
use Rattle.tinyjson_document.specs.Parts.{member_count}
use Rattle.tinyjson_grammar.specs.Tree.{object}
use Rattle.tinyjson_patch.specs.Copies.{member_values}
use Rattle.tinyjson_patch.specs.private.Edited.{members_tree}
use Rattle.tinyjson_patch.specs.private.Writing.{listed}
use Rattle.tinyjson_patch.proofs.Editing.Counting.{IsSpreading}
use Rattle.tinyjson_patch.proofs.edit.count.push_members.Given as goal

abbrev pub invariant-loop-member : goal.invariant-loop-member
invariant-loop-member l =
    IsSpreading (object (members_tree l.members.entries)) l.fn.stack.items l.stack.items (member_values (listed l.rest))
    (member_count (listed l.rest))

abbrev pub decreases-loop-member : goal.decreases-loop-member
decreases-loop-member l = length l.rest
