use Rattle.std.proofs.Common.{◌≡◌, map, drop}
use Rattle.tinyjson.specs.View.{text}
use Rattle.tinyjson_patch.specs.private.Edited.{tree, part_tree}
use Rattle.tinyjson_pointer.specs.Tokens.{tokens_of}
use Rattle.tinyjson_pointer.specs.Walk.{part_at}
use Rattle.tinyjson_patch.proofs.edit.find.find.Given as goal

abbrev pub invariant-loop-token : goal.invariant-loop-token
invariant-loop-token l = part_at (part_tree l.here) (map text (drop l.token-index l.token-items)) ≡ part_at (tree l.whole) (tokens_of l.pointer)
