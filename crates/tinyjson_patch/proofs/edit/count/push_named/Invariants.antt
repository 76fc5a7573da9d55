use Rattle.std.proofs.Common.{length}
use Rattle.tinyjson_document.specs.Parts.{member_count}
use Rattle.tinyjson_grammar.specs.Tree.{object}
use Rattle.tinyjson_view.specs.Views.{members_of}
use Rattle.tinyjson_patch.specs.Copies.{member_values}
use Rattle.tinyjson_patch.proofs.Editing.Counting.{IsSpreading}
use Rattle.tinyjson_patch.proofs.edit.count.push_named.Given as goal

abbrev pub invariant-loop-member : goal.invariant-loop-member
invariant-loop-member l =
    IsSpreading (object (members_of l.fn.named.items)) l.fn.stack.items l.stack.items (member_values (members_of l.named.items))
    (member_count (members_of l.named.items))

abbrev pub decreases-loop-member : goal.decreases-loop-member
decreases-loop-member l = length l.named.items
