use Rattle.std.proofs.Common.{◌≡◌, drop}
use Rattle.tinyjson_view.specs.Views.{tree_of}
use Rattle.tinyjson_schema_table.specs.Givens.{meets_given}
use Rattle.tinyjson_schema_table.proofs.constraints.unmet_given.Given as goal

abbrev pub invariant-loop-one : goal.invariant-loop-one
invariant-loop-one l = meets_given (drop l.one-index l.given) (tree_of l.value) ≡ meets_given l.given (tree_of l.value)
