use Rattle.std.proofs.Common.{◌≡◌, drop}
use Rattle.tinyjson_schema_bundle.specs.Bundles.{all_marked}
use Rattle.tinyjson_schema_bundle.specs.Scopes.{settled}
use Rattle.tinyjson_schema_bundle.proofs.scope.settled.Given as goal

abbrev pub invariant-loop-mark : goal.invariant-loop-mark
invariant-loop-mark l = settled (all_marked (drop l.mark-index l.scope)) l.name ≡ settled (all_marked l.scope) l.name
