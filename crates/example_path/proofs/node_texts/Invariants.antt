use Rattle.std.proofs.Common.{◌≡◌, ◌++◌, drop, map}
use Rattle.tinyjson.specs.Words.{text}
use Rattle.tinyjson_path.specs.Nodes.{parts_view}
use Rattle.example_path.specs.Texts.{part_texts}
use Rattle.example_path.proofs.node_texts.Given as goal

abbrev pub invariant-loop-node : goal.invariant-loop-node
invariant-loop-node l =
    map text l.texts.items ++ part_texts (parts_view (drop l.node-index l.nodes)) ≡ part_texts (parts_view l.nodes)
