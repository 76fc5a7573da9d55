use Rattle.std.proofs.Common.{length}
use Rattle.std.specs.VecDeque.Iter.{deque_iter_rest}
use Rattle.tinyjson.specs.Index.{item_count}
use Rattle.tinyjson_grammar.specs.Tree.{array}
use Rattle.tinyjson_patch.specs.Copies.{item_values}
use Rattle.tinyjson_patch.specs.private.Edited.{items_tree}
use Rattle.tinyjson_patch.proofs.Editing.Counting.{IsSpreading}
use Rattle.tinyjson_patch.proofs.edit.count.push_items.Given as goal

abbrev pub invariant-loop-item : goal.invariant-loop-item
invariant-loop-item l =
    IsSpreading (array (items_tree l.items.items)) l.fn.stack.items l.stack.items (item_values (items_tree (deque_iter_rest l.rest)))
    (item_count (items_tree (deque_iter_rest l.rest)))

abbrev pub decreases-loop-item : goal.decreases-loop-item
decreases-loop-item l = length (deque_iter_rest l.rest)
