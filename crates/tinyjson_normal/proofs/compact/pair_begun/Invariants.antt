use Rattle.std.proofs.Common.{◌≡◌, ◌++◌, length}
use Rattle.tinyjson_normal.specs.Compacting.{members_of}
use Rattle.tinyjson_normal.proofs.compact.pair_begun.Given as goal

abbrev pub invariant-loop-first : goal.invariant-loop-first
invariant-loop-first l = l.members.items ++ members_of l.rest l.end ≡ members_of l.begun l.end

abbrev pub decreases-loop-first : goal.decreases-loop-first
decreases-loop-first l = length l.rest
