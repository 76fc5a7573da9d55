use Rattle.std.proofs.Common.{◌≡◌, ◌≤◌}
use Rattle.tinyjson.specs.Equality.{items_eq}
use Rattle.tinyjson_document.specs.Comparing.{items_from, items_weight}
use Rattle.tinyjson_document.specs.Document.{items_left}
use Rattle.tinyjson_document.specs.Parts.{items_in}
use Rattle.tinyjson_document.proofs.equality.next_items.Given as goal

abbrev pub invariant-loop-item : goal.invariant-loop-item
invariant-loop-item g l =
    (items_eq (items_left l.items) (items_from l.index (items_in (g.V.Other.tree l.fn.other)))
    ≡ items_eq (items_left l.initial.items) (items_from l.initial.index (items_in (g.V.Other.tree l.fn.other))))
    × (items_weight (items_left l.items) ≤ items_weight (items_left l.initial.items))

abbrev pub decreases-loop-item : goal.decreases-loop-item
decreases-loop-item g l = items_weight (items_left l.items)
