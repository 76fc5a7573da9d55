use Rattle.std.proofs.Common.{◌≡◌, drop}
use Rattle.tinyjson_schema_bundle.specs.Bundles.{is_only, all_marked}
use Rattle.tinyjson_schema_bundle.proofs.guide.is_only.Given as goal

abbrev pub invariant-loop-mark : goal.invariant-loop-mark
invariant-loop-mark l = is_only (all_marked (drop l.mark-index l.marks)) l.name l.place ≡ is_only (all_marked l.marks) l.name l.place
