use Rattle.std.proofs.Common.{◌≡◌, ◌++◌, reverse, length}
use Rattle.tinyjson_path.specs.Nodes.{Part, parts_view}
use Rattle.tinyjson_path.specs.Waiting.{AreChildren, waits_view, waits_at}
use Rattle.tinyjson_path.proofs.Repeating.{Marks}
use Rattle.tinyjson_path.proofs.waiting.push_reversed.Given as goal

abbrev pub invariant-loop-node : goal.invariant-loop-node
invariant-loop-node l = record {
  view :
      waits_view l.waiting.items ++ reverse (waits_at l.segment (parts_view l.nodes.items))
      ≡ waits_view l.fn.waiting.items ++ reverse (waits_at l.segment (parts_view l.fn.nodes.items));
  marks : (p : Part) → AreChildren p (parts_view l.fn.nodes.items) → Marks p l.fn.waiting.items l.waiting.items l.segment l.nodes.items;
}

abbrev pub decreases-loop-node : goal.decreases-loop-node
decreases-loop-node l = length l.nodes.items
