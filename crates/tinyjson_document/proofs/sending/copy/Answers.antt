use Rattle.std.proofs.Common.{[], refl}
use Rattle.tinyjson_document.proofs.Callers.{node_sound}
use Rattle.tinyjson_document.specs.Document.{tree}
use Rattle.tinyjson_document.proofs.sending.copy.Goals as goal

pub replay-requires : goal.replay-requires
replay-requires c = (c.new-arena.result, [], (c.new-arena.ensures, refl))

pub of_arena-requires : goal.of_arena-requires
of_arena-requires c = (
  tree c.args.node,
  (c.in_ok-replay.ensures c.new-arena.result [] (c.new-arena.ensures, refl)).0,
  node_sound c.args.node,
)

pub returns : goal.returns
returns c = c.of_arena.ensures (tree c.args.node) (c.in_ok-replay.ensures c.new-arena.result [] (c.new-arena.ensures, refl)).0
