use Rattle.std.proofs.Common.{◌≡◌, drop, map}
use Rattle.tinyjson_schema_keywords.specs.Subschemas.{all_seen}
use Rattle.tinyjson_schema_drafts.specs.Meta.{published}
use Rattle.tinyjson_schema_drafts.specs.References.{led_into}
use Rattle.tinyjson_schema_drafts.proofs.wanted.led_into.Given as goal

abbrev pub invariant-loop-member : goal.invariant-loop-member
invariant-loop-member l = led_into (map published l.documents) (all_seen l.members)
    ≡ led_into (map published l.documents) (all_seen (drop l.member-index l.members))
