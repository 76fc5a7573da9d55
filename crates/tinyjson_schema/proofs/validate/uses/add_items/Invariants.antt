use Rattle.std.proofs.Common.{◌≡◌, ◌++◌, drop, map}
use Rattle.tinyjson.specs.View.{view}
use Rattle.tinyjson_view.specs.Views.{trees_of}
use Rattle.tinyjson_schema.specs.Every.{item_uses}
use Rattle.tinyjson_schema.specs.Steps.{use_of}
use Rattle.tinyjson_schema.proofs.validate.uses.add_items.Given as goal

abbrev pub invariant-loop-index : goal.invariant-loop-index
invariant-loop-index l =
    map use_of l.pending.items ++ item_uses (view l.here.schema.now) l.index (trees_of (drop l.index l.items))
    ≡ map use_of l.initial.pending.items ++ item_uses (view l.here.schema.now) 0 (trees_of l.items)
