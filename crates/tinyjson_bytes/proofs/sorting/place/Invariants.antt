use Rattle.std.proofs.Common.{◌≡◌, length}
use Rattle.std.specs.List.Sorted.{IsPermutation}
use Rattle.tinyjson_bytes.proofs.sorting.place.Given as goal

abbrev pub invariant-loop-start : goal.invariant-loop-start
invariant-loop-start g l = (length l.words ≡ length l.members) × (length l.members ≡ length l.fn.members)
    × IsPermutation l.fn.members l.members
