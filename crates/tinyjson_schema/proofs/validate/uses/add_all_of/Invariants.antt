use Rattle.std.proofs.Common.{◌≡◌, ◌++◌, drop, map}
use Rattle.tinyjson.specs.View.{items_view}
use Rattle.tinyjson_view.specs.Views.{tree_of}
use Rattle.tinyjson_schema.specs.Every.{all_uses}
use Rattle.tinyjson_schema.specs.Steps.{use_of}
use Rattle.tinyjson_schema.proofs.validate.uses.add_all_of.Given as goal

abbrev pub invariant-loop-index : goal.invariant-loop-index
invariant-loop-index l = map use_of l.pending.items ++ all_uses l.index (items_view (drop l.index l.parts)) (tree_of l.value)
    ≡ map use_of l.initial.pending.items ++ all_uses 0 (items_view l.parts) (tree_of l.value)
