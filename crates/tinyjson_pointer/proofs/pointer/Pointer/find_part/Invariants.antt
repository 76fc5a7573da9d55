use Rattle.std.proofs.Common.{◌≡◌, map, drop}
use Rattle.tinyjson.specs.View.{text}
use Rattle.tinyjson_pointer.specs.Walk.{part_at}
use Rattle.tinyjson_pointer.specs.Tokens.{tokens_of}
use Rattle.tinyjson_pointer.proofs.pointer.Pointer.find_part.Given as goal

abbrev pub invariant-loop-token : goal.invariant-loop-token
invariant-loop-token g l = part_at (g.V.JsonView.tree l.here) (map text (drop l.token-index l.token-items))
    ≡ part_at (g.V.JsonView.tree l.fn.whole) (tokens_of l.self)
