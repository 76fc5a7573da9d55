use Rattle.std.proofs.Common.{◌≡◌, length}
use Rattle.tinyjson_patch.specs.private.Edited.{tree}
use Rattle.tinyjson_patch.specs.private.Opening.{closed}
use Rattle.tinyjson_patch.proofs.edit.opened.close_all.Given as goal

abbrev pub invariant-loop-outer : goal.invariant-loop-outer
invariant-loop-outer l = closed l.opened.items (tree l.part) ≡ closed l.fn.opened.items (tree l.fn.part)

abbrev pub decreases-loop-outer : goal.decreases-loop-outer
decreases-loop-outer l = length l.opened.items
