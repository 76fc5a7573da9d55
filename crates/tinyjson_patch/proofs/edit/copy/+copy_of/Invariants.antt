use Rattle.std.proofs.Common.{◌≡◌, ◌+◌, ◌*◌, ◌++◌, length, map}
use Rattle.std.specs.VecDeque.Iter.{deque_iter_rest}
use Rattle.tinyjson_document.specs.Replaying.{put_members}
use Rattle.tinyjson_patch.specs.private.Edited.{item_tree, members_tree}
use Rattle.tinyjson_patch.specs.private.Writing.{listed}
use Rattle.tinyjson_patch.proofs.edit.copy.+copy_of.Given as goal

abbrev pub decreases-copy_of : goal.decreases-copy_of
decreases-copy_of l = 2 * l.levels

abbrev pub decreases-copy_items : goal.decreases-copy_items
decreases-copy_items l = 2 * l.levels + 1

abbrev pub decreases-copy_members : goal.decreases-copy_members
decreases-copy_members l = 2 * l.levels + 1

abbrev pub invariant-copy_items-loop-item : goal.invariant-copy_items-loop-item
invariant-copy_items-loop-item l =
    map item_tree l.copies.items ++ map item_tree (deque_iter_rest l.rest) ≡ map item_tree l.fn.items.items

abbrev pub decreases-copy_items-loop-item : goal.decreases-copy_items-loop-item
decreases-copy_items-loop-item l = length (deque_iter_rest l.rest)

abbrev pub invariant-copy_members-loop-key : goal.invariant-copy_members-loop-key
invariant-copy_members-loop-key l =
    put_members (members_tree l.copies.entries) (listed l.rest) ≡ members_tree l.fn.members.entries

abbrev pub decreases-copy_members-loop-key : goal.decreases-copy_members-loop-key
decreases-copy_members-loop-key l = length l.rest
