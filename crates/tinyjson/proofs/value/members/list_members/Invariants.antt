use Rattle.std.proofs.Common.{◌≡◌, ◌++◌, map}
use Rattle.tinyjson.specs.private.Sorted.{bytes_pair, listed_pair}
use Rattle.tinyjson.proofs.value.members.list_members.Given as goal

abbrev pub invariant-loop-key : goal.invariant-loop-key
invariant-loop-key l = map listed_pair l.listed.items ++ map bytes_pair l.key-iterator
    ≡ map listed_pair l.fn.listed.items ++ map bytes_pair l.members.entries
