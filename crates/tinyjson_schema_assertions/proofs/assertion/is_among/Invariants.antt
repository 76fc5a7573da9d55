use Rattle.std.proofs.Common.{◌≡◌, drop}
use Rattle.tinyjson.specs.View.{items_view}
use Rattle.tinyjson_view.specs.Views.{tree_of}
use Rattle.tinyjson_schema_assertions.specs.Assertions.{is_among}
use Rattle.tinyjson_schema_assertions.proofs.assertion.is_among.Given as goal

abbrev pub invariant-loop-one : goal.invariant-loop-one
invariant-loop-one l = is_among (items_view (drop l.one-index l.values)) (tree_of l.value)
    ≡ is_among (items_view l.values) (tree_of l.value)
