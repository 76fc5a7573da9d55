use Rattle.std.proofs.Common.{◌≡◌, drop}
use Rattle.tinyjson_schema_assertions.specs.Distinct.{are_distinct}
use Rattle.tinyjson_view.specs.Views.{trees_of}
use Rattle.tinyjson_schema_assertions.proofs.SeenTexts.{left_distinct}
use Rattle.tinyjson_schema_assertions.proofs.unique.are_distinct.Given as goal

abbrev pub invariant-loop-value : goal.invariant-loop-value
invariant-loop-value l = left_distinct l.texts (drop l.value-index l.values) ≡ are_distinct (trees_of l.values)
