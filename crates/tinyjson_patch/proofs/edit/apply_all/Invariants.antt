use Rattle.std.proofs.Common.{length}
use Rattle.tinyjson_patch.proofs.Editing.Running.{IsLeft}
use Rattle.tinyjson_patch.proofs.Editing.Taken.{AreTaken}
use Rattle.tinyjson_patch.specs.private.Edited.{tree}
use Rattle.tinyjson_patch.proofs.edit.apply_all.Given as goal

abbrev pub invariant-loop-operation : goal.invariant-loop-operation
invariant-loop-operation l =
    IsLeft l.total l.operations l.rest (tree l.fn.value) (tree l.value)
    × AreTaken l.fn.left l.left l.operations (tree l.fn.value) l.rest (tree l.value)

abbrev pub decreases-loop-operation : goal.decreases-loop-operation
decreases-loop-operation l = length l.rest
