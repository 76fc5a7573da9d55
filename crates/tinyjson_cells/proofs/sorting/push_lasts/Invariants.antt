use Rattle.std.proofs.Common.{◌≡◌, ◌++◌, length}
use Rattle.tinyjson_cells.specs.Order.{lasts}
use Rattle.tinyjson_cells.proofs.sorting.push_lasts.Given as goal

abbrev pub invariant-loop-member : goal.invariant-loop-member
invariant-loop-member l = l.members.items ++ lasts l.texts l.rest ≡ l.fn.members.items ++ lasts l.texts l.sorted

abbrev pub decreases-loop-member : goal.decreases-loop-member
decreases-loop-member l = length l.rest
