use Rattle.std.proofs.Common.{◌≡◌, drop}
use Rattle.tinyjson_schema_bundle.specs.Bundles.{dynamic_place, all_marked}
use Rattle.tinyjson_schema_bundle.proofs.guide.dynamic_place.Given as goal

abbrev pub invariant-loop-mark : goal.invariant-loop-mark
invariant-loop-mark l = dynamic_place (all_marked (drop l.mark-index l.marks)) l.uri ≡ dynamic_place (all_marked l.marks) l.uri
