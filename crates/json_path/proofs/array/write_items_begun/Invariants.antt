use Rattle.std.proofs.Common.{true, length}
use Rattle.tinyjson.specs.Written.{Written}
use Rattle.tinyjson_path.specs.Selections.{left}
use Rattle.json_path.specs.Shapes.{begun, items_text}
use Rattle.json_path.proofs.array.write_items_begun.Given as goal

abbrev pub invariant-loop-next : goal.invariant-loop-next
invariant-loop-next g l =
    Written (g.W.Write.contents l.initial.output) (g.W.Write.contents l.output)
    (items_text l.shape true (begun l.fn.first (left l.fn.rest)))
    (items_text l.shape l.is_first (begun l.next (left l.rest)))

abbrev pub decreases-loop-next : goal.decreases-loop-next
decreases-loop-next g l = length (begun l.next (left l.rest))
