use Rattle.std.proofs.Common.{◌≡◌, ◌++◌, drop, map}
use Rattle.tinyjson.specs.View.{view}
use Rattle.tinyjson_view.specs.Views.{trees_of}
use Rattle.tinyjson_schema.specs.Evaluated.{Answers}
use Rattle.tinyjson_schema.specs.Every.{left_items}
use Rattle.tinyjson_schema.specs.Sources.{sources_evaluate}
use Rattle.tinyjson_schema.specs.Steps.{use_of}
use Rattle.tinyjson_schema.proofs.validate.uses.add_left_items.Given as goal

abbrev pub invariant-loop-index : goal.invariant-loop-index
invariant-loop-index l = (g : Answers) →
    map use_of l.pending.items ++ left_items (sources_evaluate g l.sources) (view l.rest.schema.now)
    l.index (trees_of (drop l.index l.items))
    ≡ map use_of l.initial.pending.items ++ left_items (sources_evaluate g l.sources) (view l.rest.schema.now) 0 (trees_of l.items)
