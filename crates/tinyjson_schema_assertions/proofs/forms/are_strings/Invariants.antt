use Rattle.std.proofs.Common.{◌≡◌, drop}
use Rattle.tinyjson.specs.View.{items_view}
use Rattle.tinyjson_schema_assertions.specs.Operands.{are_strings}
use Rattle.tinyjson_schema_assertions.proofs.forms.are_strings.Given as goal

abbrev pub invariant-loop-value : goal.invariant-loop-value
invariant-loop-value l = are_strings (items_view (drop l.value-index l.values)) ≡ are_strings (items_view l.values)
