use Rattle.std.proofs.Common.{◌≡◌, drop}
use Rattle.tinyjson_schema_bundle.specs.Bundles.{all_marked}
use Rattle.tinyjson_schema_bundle.specs.Scopes.{most_letters}
use Rattle.tinyjson_schema_bundle.proofs.copies.most_letters.Given as goal

abbrev pub invariant-loop-mark : goal.invariant-loop-mark
invariant-loop-mark l = most_letters (all_marked (drop l.mark-index l.marks)) l.most ≡ most_letters (all_marked l.marks) l.least
