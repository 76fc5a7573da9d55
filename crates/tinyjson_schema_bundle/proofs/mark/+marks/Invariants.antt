use Rattle.std.proofs.Common.{◌+◌, ◌*◌, drop}
use Rattle.tinyjson.specs.Tree.{tree_depth}
use Rattle.tinyjson.specs.View.{view}
use Rattle.tinyjson_schema_keywords.specs.Subschemas.{all_parts}
use Rattle.tinyjson_schema_bundle.specs.Bundles.{marks_of_parts}
use Rattle.tinyjson_schema_bundle.proofs.Marking.{IsLeft}
use Rattle.tinyjson_schema_bundle.proofs.mark.+marks.Given as goal

abbrev pub decreases-gather : goal.decreases-gather
decreases-gather l = 3 * tree_depth (view l.value.now) + 2

abbrev pub decreases-gather_schema : goal.decreases-gather_schema
decreases-gather_schema l = 3 * tree_depth (view l.schema.now) + 1

abbrev pub decreases-gather_parts : goal.decreases-gather_parts
decreases-gather_parts l = 3 * tree_depth (view l.value.now)

abbrev pub invariant-gather_parts-loop-part : goal.invariant-gather_parts-loop-part
invariant-gather_parts-loop-part l = IsLeft (marks_of_parts l.spot.base.now l.spot.place.now (all_parts l.part-items))
    (marks_of_parts l.spot.base.now l.spot.place.now (all_parts (drop l.part-index l.part-items))) l.initial.marks.items l.marks.items
