use Rattle.std.proofs.Common.{◌≡◌, drop}
use Rattle.tinyjson.specs.View.{items_view}
use Rattle.tinyjson_view.specs.Views.{tree_of}
use Rattle.tinyjson_schema_report.specs.Missing.{missing}
use Rattle.tinyjson_schema_report.proofs.missing.missing.Given as goal

abbrev pub invariant-loop-name : goal.invariant-loop-name
invariant-loop-name l = missing (items_view (drop l.name-index l.names)) (tree_of l.value)
    ≡ missing (items_view l.names) (tree_of l.value)
