use Rattle.std.proofs.Common.{length}
use Rattle.tinyjson.specs.Written.{Written}
use Rattle.tinyjson_path.specs.Selections.{left}
use Rattle.json_path.specs.Shapes.{begun, lines_of}
use Rattle.json_path.proofs.lines.write_lines_begun.Given as goal

abbrev pub invariant-loop-next : goal.invariant-loop-next
invariant-loop-next g l =
    Written (g.W.Write.contents l.initial.output) (g.W.Write.contents l.output) (lines_of l.shape (begun l.fn.first (left l.fn.rest)))
    (lines_of l.shape (begun l.next (left l.rest)))

abbrev pub decreases-loop-next : goal.decreases-loop-next
decreases-loop-next g l = length (begun l.next (left l.rest))
