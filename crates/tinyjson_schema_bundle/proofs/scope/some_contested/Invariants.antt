use Rattle.std.proofs.Common.{◌≡◌, drop}
use Rattle.tinyjson_schema_bundle.specs.Bundles.{all_marked}
use Rattle.tinyjson_schema_bundle.specs.Scopes.{some_contested}
use Rattle.tinyjson_schema_bundle.proofs.scope.some_contested.Given as goal

abbrev pub invariant-loop-mark : goal.invariant-loop-mark
invariant-loop-mark l = some_contested (all_marked l.marks) l.root (all_marked (drop l.mark-index l.marks))
    ≡ some_contested (all_marked l.marks) l.root (all_marked l.marks)
