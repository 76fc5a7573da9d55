use Rattle.std.proofs.Common.{◌≡◌, ◌++◌, length}
use Rattle.tinyjson_path.specs.Nodes.{parts_view}
use Rattle.tinyjson_path.specs.Selections.{left, sources}
use Rattle.tinyjson_path.proofs.selection.Selection.collect.Given as goal

abbrev pub invariant-loop-nodes : goal.invariant-loop-nodes
invariant-loop-nodes l = record {
  sources : sources l.self ≡ sources l.fn.self;
  left : parts_view l.nodes.items ++ left l.self ≡ left l.fn.self;
}

abbrev pub decreases-loop-nodes : goal.decreases-loop-nodes
decreases-loop-nodes l = length (left l.self)
