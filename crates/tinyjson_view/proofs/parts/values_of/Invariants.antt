use Rattle.std.proofs.Common.{◌≡◌, drop}
use Rattle.tinyjson.specs.View.{items_view}
use Rattle.tinyjson_view.proofs.Filling.{before}
use Rattle.tinyjson_view.proofs.parts.values_of.Given as goal

abbrev pub invariant-loop-item : goal.invariant-loop-item
invariant-loop-item l = before l.listed.items (items_view (drop l.item-index l.items)) ≡ items_view l.items
