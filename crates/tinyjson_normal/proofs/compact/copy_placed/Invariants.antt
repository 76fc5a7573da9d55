use Rattle.std.proofs.Common.{◌≡◌, ◌++◌, length}
use Rattle.tinyjson_normal.specs.Compacting.{all_placed}
use Rattle.tinyjson_normal.proofs.compact.copy_placed.Given as goal

abbrev pub invariant-loop-member : goal.invariant-loop-member
invariant-loop-member l = l.moved.items ++ all_placed l.text l.rest ≡ l.fn.moved.items ++ all_placed l.text l.members

abbrev pub decreases-loop-member : goal.decreases-loop-member
decreases-loop-member l = length l.rest
