use Rattle.std.proofs.Common.{List, length}
use Rattle.tinyjson_path_query.specs.Forms.{Each}
use Rattle.tinyjson_path_query.specs.Fronts.{singular_turn}
use Rattle.tinyjson_path_query.specs.Values.{SingularSegment, IsSingularSegment}
use Rattle.tinyjson_path_query.proofs.Turns.{Goes}
use Rattle.tinyjson_path_query.proofs.comparable.singular_segments.Given as goal

abbrev pub invariant-loop-segment : goal.invariant-loop-segment
invariant-loop-segment l =
    (vs : List SingularSegment) × Each IsSingularSegment vs l.segments.items × Goes singular_turn l.fn.text vs l.rest

abbrev pub decreases-loop-segment : goal.decreases-loop-segment
decreases-loop-segment l = length l.rest
