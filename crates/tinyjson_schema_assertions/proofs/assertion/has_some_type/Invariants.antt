use Rattle.std.proofs.Common.{◌≡◌, drop}
use Rattle.tinyjson.specs.View.{items_view}
use Rattle.tinyjson_view.specs.Views.{tree_of}
use Rattle.tinyjson_schema_assertions.specs.Assertions.{has_some_type}
use Rattle.tinyjson_schema_assertions.proofs.assertion.has_some_type.Given as goal

abbrev pub invariant-loop-name : goal.invariant-loop-name
invariant-loop-name l = has_some_type (items_view (drop l.name-index l.names)) (tree_of l.value)
    ≡ has_some_type (items_view l.names) (tree_of l.value)
