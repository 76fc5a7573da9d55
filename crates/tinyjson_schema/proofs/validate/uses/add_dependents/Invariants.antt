use Rattle.std.proofs.Common.{◌≡◌, ◌++◌, drop, map}
use Rattle.tinyjson.specs.View.{members_listed}
use Rattle.tinyjson_view.specs.Views.{tree_of}
use Rattle.tinyjson_schema.specs.Every.{dependent_uses}
use Rattle.tinyjson_schema.specs.Steps.{use_of}
use Rattle.tinyjson_schema.proofs.validate.uses.add_dependents.Given as goal

abbrev pub invariant-loop-key : goal.invariant-loop-key
invariant-loop-key l = map use_of l.pending.items ++ dependent_uses (members_listed (drop l.key-index l.dependents)) (tree_of l.value)
    ≡ map use_of l.initial.pending.items ++ dependent_uses (members_listed l.dependents) (tree_of l.value)
