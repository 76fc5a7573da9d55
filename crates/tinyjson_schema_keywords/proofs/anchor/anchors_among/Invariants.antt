use Rattle.std.proofs.Common.{[], drop}
use Rattle.tinyjson_schema_keywords.specs.Anchors.{anchors_among}
use Rattle.tinyjson_schema_keywords.specs.Subschemas.{all_seen}
use Rattle.tinyjson_schema_keywords.proofs.Naming.{IsLeft}
use Rattle.tinyjson_schema_keywords.proofs.anchor.anchors_among.Given as goal

abbrev pub invariant-loop-member : goal.invariant-loop-member
invariant-loop-member l =
    IsLeft (anchors_among (all_seen l.members)) (anchors_among (all_seen (drop l.member-index l.members))) [] l.anchors.items
