use Rattle.std.proofs.Common.{◌≡◌, ◌≤◌, ◌++◌, map}
use Rattle.std.specs.Slice.Iter.{iter_rest}
use Rattle.tinyjson.proofs.value.copy.copy_leaves.Given as goal
use Rattle.tinyjson.specs.private.Copy.{items_weight}
use Rattle.tinyjson.specs.View.{view}

abbrev pub invariant-loop-item : goal.invariant-loop-item
invariant-loop-item l =
    (map view l.copies.items ++ map view (iter_rest l.rest) ≡ map view l.initial.copies.items ++ map view (iter_rest l.initial.rest))
    × (items_weight (iter_rest l.rest) ≤ items_weight (iter_rest l.initial.rest))
