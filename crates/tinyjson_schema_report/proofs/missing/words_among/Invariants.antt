use Rattle.std.proofs.Common.{◌≡◌, drop}
use Rattle.tinyjson.specs.View.{members_listed}
use Rattle.tinyjson_view.specs.Views.{tree_of}
use Rattle.tinyjson_schema_report.specs.Missing.{words_among}
use Rattle.tinyjson_schema_report.proofs.missing.words_among.Given as goal

abbrev pub invariant-loop-key : goal.invariant-loop-key
invariant-loop-key l = words_among (members_listed (drop l.key-index l.dependents)) (tree_of l.value)
    ≡ words_among (members_listed l.dependents) (tree_of l.value)
