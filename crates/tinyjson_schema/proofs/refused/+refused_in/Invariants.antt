use Rattle.std.proofs.Common.{◌≡◌, drop}
use Rattle.tinyjson.specs.Tree.{tree_depth}
use Rattle.tinyjson.specs.View.{view}
use Rattle.tinyjson_schema_keywords.specs.Subschemas.{all_parts}
use Rattle.tinyjson_schema.specs.Refused.{whole_of}
use Rattle.tinyjson_schema.specs.Settled.{IsRight}
use Rattle.tinyjson_schema.proofs.Refusals.{parts_applied}
use Rattle.tinyjson_schema.proofs.refused.+refused_in.Given as goal

abbrev pub decreases-refused_in : goal.decreases-refused_in
decreases-refused_in l = tree_depth (view l.value.now)

abbrev pub invariant-loop-part : goal.invariant-loop-part
invariant-loop-part l = (parts_applied (whole_of l.document) l.is_whole (all_parts (drop l.part-index l.part-items))
    ≡ parts_applied (whole_of l.document) l.is_whole (all_parts l.part-items))
    × IsRight (whole_of l.document) l.known
