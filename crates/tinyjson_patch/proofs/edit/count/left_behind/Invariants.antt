use Rattle.std.proofs.Common.{◌+◌, length}
use Rattle.tinyjson_patch.specs.private.Counting.{inside}
use Rattle.tinyjson_patch.specs.private.Edited.{part_tree}
use Rattle.tinyjson_patch.proofs.Editing.Counting.{IsCounting}
use Rattle.tinyjson_patch.proofs.edit.count.left_behind.Given as goal

abbrev pub invariant-loop-next : goal.invariant-loop-next
invariant-loop-next l = IsCounting l.left l.rest (part_tree l.fn.part) l.stack.items

abbrev pub decreases-loop-next : goal.decreases-loop-next
decreases-loop-next l = inside l.stack.items + length l.stack.items
