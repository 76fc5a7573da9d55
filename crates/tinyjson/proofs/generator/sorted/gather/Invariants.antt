use Rattle.std.proofs.Common.{◌≡◌, ◌++◌, map, take, drop, length}
use Rattle.tinyjson.specs.private.Sorted.{now_pair, bytes_pair}
use Rattle.tinyjson.proofs.generator.sorted.gather.Given as goal

abbrev pub invariant-loop-key : goal.invariant-loop-key
invariant-loop-key l =
    let old = l.fn.gathered.items in
    (take (length old) l.gathered.items ≡ old)
    × (map now_pair (drop (length old) l.gathered.items) ++ map bytes_pair l.key-iterator ≡ map bytes_pair l.members.entries)
