use Rattle.std.proofs.Common.{◌≡◌, drop, length}
use Rattle.tinyjson_schema_bundle.specs.Bundles.{all_marked}
use Rattle.tinyjson_schema_bundle.specs.Scopes.{is_same}
use Rattle.tinyjson_schema_bundle.proofs.scope.is_same.Given as goal

abbrev pub invariant-loop-index : goal.invariant-loop-index
invariant-loop-index l = (length l.scope ≡ length l.other)
    × (is_same (all_marked (drop l.index l.scope)) (all_marked (drop l.index l.other)) ≡ is_same (all_marked l.scope) (all_marked l.other))
