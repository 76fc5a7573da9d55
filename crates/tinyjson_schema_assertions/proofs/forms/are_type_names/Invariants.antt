use Rattle.std.proofs.Common.{◌≡◌, length}
use Rattle.tinyjson.specs.View.{items_view}
use Rattle.tinyjson_schema_assertions.specs.Operands.{are_type_names}
use Rattle.tinyjson_schema_assertions.proofs.forms.are_type_names.Given as goal

abbrev pub invariant-loop-name : goal.invariant-loop-name
invariant-loop-name l = are_type_names (items_view l.rest) ≡ are_type_names (items_view l.names)

abbrev pub decreases-loop-name : goal.decreases-loop-name
decreases-loop-name l = length l.rest
