use Rattle.std.proofs.Common.{◌≡◌, map, drop}
use Rattle.tinyjson.specs.View.{view, text}
use Rattle.tinyjson_pointer.specs.Walk.{part_at}
use Rattle.tinyjson_pointer.specs.Tokens.{tokens_of}
use Rattle.tinyjson_pointer.proofs.pointer.Pointer.find.Given as goal

abbrev pub invariant-loop-token : goal.invariant-loop-token
invariant-loop-token l = part_at (view l.here) (map text (drop l.token-index l.token-items)) ≡ part_at (view l.value) (tokens_of l.self)
