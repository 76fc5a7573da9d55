use Rattle.std.proofs.Common.{drop}
use Rattle.tinyjson.specs.Written.{Written}
use Rattle.json_path.specs.Shapes.{lines_of}
use Rattle.tinyjson_path.specs.Nodes.{parts_view}
use Rattle.json_path.proofs.lines.write_lines.Given as goal

abbrev pub invariant-loop-node : goal.invariant-loop-node
invariant-loop-node g l =
    Written (g.W.Write.contents l.initial.output) (g.W.Write.contents l.output) (lines_of l.shape (parts_view l.nodes))
    (lines_of l.shape (parts_view (drop l.node-index l.nodes)))
