use Rattle.std.proofs.Common.{◌≡◌, drop}
use Rattle.tinyjson_path.specs.Comparing.{one_at}
use Rattle.tinyjson_view.specs.Views.{tree_of}
use Rattle.tinyjson_path.proofs.operand.descend_singly.Given as goal

abbrev pub invariant-loop-segment : goal.invariant-loop-segment
invariant-loop-segment l = one_at (drop l.segment-index l.segments) (tree_of l.here) ≡ one_at l.segments (tree_of l.value)
