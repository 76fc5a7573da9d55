use Rattle.std.proofs.Common.{drop}
use Rattle.tinyjson.specs.Tree.{tree_depth}
use Rattle.tinyjson.specs.View.{view}
use Rattle.tinyjson_schema_keywords.specs.Subschemas.{all_parts}
use Rattle.tinyjson_schema_keywords.proofs.Stepping.{IsLeft, members_of_parts}
use Rattle.tinyjson_schema_keywords.proofs.subschemas.+gather.Given as goal

abbrev pub decreases-gather : goal.decreases-gather
decreases-gather l = tree_depth (view l.value.now)

abbrev pub invariant-loop-part : goal.invariant-loop-part
invariant-loop-part l = IsLeft (members_of_parts l.form (view l.value) (all_parts l.part-items))
    (members_of_parts l.form (view l.value) (all_parts (drop l.part-index l.part-items))) l.initial.found.items l.found.items
