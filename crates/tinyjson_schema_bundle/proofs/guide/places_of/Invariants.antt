use Rattle.std.proofs.Common.{◌≤◌, drop, length}
use Rattle.tinyjson_schema_bundle.specs.Bundles.{HasPlaces, all_marked}
use Rattle.tinyjson_schema_bundle.proofs.guide.places_of.Given as goal

abbrev pub invariant-loop-left : goal.invariant-loop-left
invariant-loop-left l = (l.left ≤ length l.marks) × HasPlaces (all_marked (drop l.left l.marks)) l.places

abbrev pub decreases-loop-left : goal.decreases-loop-left
decreases-loop-left l = l.left
