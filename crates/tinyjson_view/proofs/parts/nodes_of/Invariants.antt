use Rattle.std.proofs.Common.{◌≡◌}
use Rattle.tinyjson_document.specs.Document.{items_left}
use Rattle.tinyjson_view.proofs.Filling.{before}
use Rattle.tinyjson_view.proofs.parts.nodes_of.Given as goal

abbrev pub invariant-loop-item : goal.invariant-loop-item
invariant-loop-item l = before l.listed.items (items_left l.item-iterator) ≡ items_left l.items
