use Rattle.std.proofs.Common.{◌≡◌, drop}
use Rattle.tinyjson.specs.View.{members_listed}
use Rattle.tinyjson_document.specs.Parts.{members_in}
use Rattle.tinyjson_view.specs.Views.{tree_of}
use Rattle.tinyjson_schema_assertions.specs.Assertions.{has_dependents}
use Rattle.tinyjson_schema_assertions.proofs.assertion.has_dependents.Given as goal

abbrev pub invariant-loop-key : goal.invariant-loop-key
invariant-loop-key l = has_dependents (members_listed (drop l.key-index l.dependents)) (members_in (tree_of l.value))
    ≡ has_dependents (members_listed l.dependents) (members_in (tree_of l.value))
