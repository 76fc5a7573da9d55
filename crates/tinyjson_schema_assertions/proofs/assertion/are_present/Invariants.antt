use Rattle.std.proofs.Common.{◌≡◌, drop}
use Rattle.tinyjson.specs.View.{items_view}
use Rattle.tinyjson_document.specs.Parts.{members_in}
use Rattle.tinyjson_view.specs.Views.{tree_of}
use Rattle.tinyjson_schema_assertions.specs.Assertions.{are_present}
use Rattle.tinyjson_schema_assertions.proofs.assertion.are_present.Given as goal

abbrev pub invariant-loop-key : goal.invariant-loop-key
invariant-loop-key l = are_present (items_view (drop l.key-index l.keys)) (members_in (tree_of l.value))
    ≡ are_present (items_view l.keys) (members_in (tree_of l.value))
