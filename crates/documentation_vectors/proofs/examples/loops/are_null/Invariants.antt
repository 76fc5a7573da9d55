use Rattle.std.proofs.Common.{◌≡◌}
use Rattle.std.specs.Vec.Iter.{into_iter_items}
use Rattle.documentation_vectors.specs.Nulls.{all_null}
use Rattle.tinyjson.proofs.Callers.{IsLeft}
use Rattle.tinyjson.specs.View.{items_view}
use Rattle.documentation_vectors.proofs.examples.loops.are_null.Given as goal

abbrev pub invariant-loop-item : goal.invariant-loop-item
invariant-loop-item l = IsLeft l.fn.items.items l.item-iterator
    × (all_null (items_view (into_iter_items l.item-iterator)) ≡ all_null (items_view l.fn.items.items))
