use Rattle.std.proofs.Common.{◌≡◌, ◌++◌, drop}
use Rattle.tinyjson_c.specs.Select.{part_lines}
use Rattle.tinyjson_path.specs.Nodes.{parts_view}
use Rattle.tinyjson_c.proofs.select.push_lines.Given as goal

abbrev pub invariant-loop-node : goal.invariant-loop-node
invariant-loop-node l =
    l.initial.written.items ++ part_lines l.paths (parts_view l.nodes)
    ≡ l.written.items ++ part_lines l.paths (parts_view (drop l.node-index l.nodes))
