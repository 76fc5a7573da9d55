use Rattle.std.proofs.Common.{◌≡◌, ◌≤◌}
use Rattle.std.specs.Slice.Iter.{iter_rest}
use Rattle.tinyjson.specs.private.Copy.{items_weight}
use Rattle.tinyjson.specs.Equality.{items_eq}
use Rattle.tinyjson.specs.View.{items_view}
use Rattle.tinyjson.proofs.value.equality.next_items.Given as goal

abbrev pub invariant-loop-item : goal.invariant-loop-item
invariant-loop-item l = (items_eq (items_view (iter_rest l.a)) (items_view (iter_rest l.b)) ≡ items_eq (items_view (iter_rest l.initial.a))
    (items_view (iter_rest l.initial.b)))
    × (items_weight (iter_rest l.a) ≤ items_weight (iter_rest l.initial.a))
