use Rattle.std.proofs.Common.{length, map}
use Rattle.tinyjson.specs.View.{text}
use Rattle.tinyjson_patch.specs.private.Edited.{tree}
use Rattle.tinyjson_patch.proofs.Editing.Opening.{IsOnWay}
use Rattle.tinyjson_patch.proofs.edit.opened.go_down.Given as goal

abbrev pub invariant-loop-token : goal.invariant-loop-token
invariant-loop-token l = IsOnWay (tree l.fn.part) (map text l.tokens) l.fn.opened.items l.opened.items (tree l.part) (map text l.rest)

abbrev pub decreases-loop-token : goal.decreases-loop-token
decreases-loop-token l = length l.rest
