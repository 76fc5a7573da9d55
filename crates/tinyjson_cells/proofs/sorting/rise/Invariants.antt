use Rattle.std.proofs.Common.{◌≡◌, length}
use Rattle.tinyjson_cells.specs.Order.{rise}
use Rattle.tinyjson_cells.proofs.sorting.rise.Given as goal

abbrev pub invariant-loop-member : goal.invariant-loop-member
invariant-loop-member l = rise l.texts l.rest ≡ rise l.texts l.members

abbrev pub decreases-loop-member : goal.decreases-loop-member
decreases-loop-member l = length l.rest
