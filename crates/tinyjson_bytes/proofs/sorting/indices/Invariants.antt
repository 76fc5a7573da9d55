use Rattle.std.proofs.Common.{◌≡◌, length}
use Rattle.tinyjson_bytes.proofs.sorting.indices.Given as goal

abbrev pub invariant-loop-index : goal.invariant-loop-index
invariant-loop-index l = length l.words.items ≡ l.index
