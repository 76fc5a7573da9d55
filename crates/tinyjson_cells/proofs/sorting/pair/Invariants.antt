use Rattle.std.proofs.Common.{◌≡◌, take}
use Rattle.tinyjson_cells.specs.Order.{paired}
use Rattle.tinyjson_cells.proofs.sorting.pair.Given as goal

abbrev pub invariant-loop-i : goal.invariant-loop-i
invariant-loop-i l = l.members.items ≡ paired (take l.i l.keys) (take l.i l.values)
