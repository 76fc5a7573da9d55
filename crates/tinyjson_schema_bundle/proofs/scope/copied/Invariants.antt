use Rattle.std.proofs.Common.{◌≡◌, ◌++◌, drop}
use Rattle.tinyjson_schema_bundle.specs.Bundles.{all_marked}
use Rattle.tinyjson_schema_bundle.proofs.scope.copied.Given as goal

abbrev pub invariant-loop-mark : goal.invariant-loop-mark
invariant-loop-mark l = all_marked l.copies.items ++ all_marked (drop l.mark-index l.marks) ≡ all_marked l.marks
