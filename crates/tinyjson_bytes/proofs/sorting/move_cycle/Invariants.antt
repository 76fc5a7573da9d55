use Rattle.std.proofs.Common.{◌≡◌, ◌<◌, length}
use Rattle.std.specs.List.Sorted.{IsPermutation}
use Rattle.tinyjson_bytes.proofs.sorting.move_cycle.Given as goal

abbrev pub invariant-loop-step : goal.invariant-loop-step
invariant-loop-step g l = (l.at < length l.members) × (length l.words ≡ length l.fn.words) × (length l.members ≡ length l.fn.members)
    × IsPermutation l.fn.members l.members
