use Rattle.std.proofs.Common.{◌≡◌, drop}
use Rattle.tinyjson_schema_bundle.specs.Bundles.{is_bundle, all_marked}
use Rattle.tinyjson_schema_bundle.proofs.mark.is_bundle.Given as goal

abbrev pub invariant-loop-mark : goal.invariant-loop-mark
invariant-loop-mark l = is_bundle (all_marked (drop l.mark-index l.marks)) ≡ is_bundle (all_marked l.marks)
