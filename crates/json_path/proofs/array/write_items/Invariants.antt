use Rattle.std.proofs.Common.{true, drop}
use Rattle.tinyjson.specs.Written.{Written}
use Rattle.json_path.specs.Shapes.{items_text}
use Rattle.tinyjson_path.specs.Nodes.{parts_view}
use Rattle.json_path.proofs.array.write_items.Given as goal

abbrev pub invariant-loop-node : goal.invariant-loop-node
invariant-loop-node g l =
    Written (g.W.Write.contents l.initial.output) (g.W.Write.contents l.output) (items_text l.shape true (parts_view l.nodes))
    (items_text l.shape l.is_first (parts_view (drop l.node-index l.nodes)))
