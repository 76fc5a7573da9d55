use Rattle.std.proofs.Common.{◌≡◌, drop}
use Rattle.tinyjson_view.specs.Views.{trees_of}
use Rattle.tinyjson_patch.proofs.Editing.Taking.{kept_before}
use Rattle.tinyjson_patch.proofs.edit.expand.kept_items.Given as goal

abbrev pub invariant-loop-view : goal.invariant-loop-view
invariant-loop-view l = kept_before l.items.items (drop l.view-index l.view-items) ≡ trees_of l.fn.views.items
