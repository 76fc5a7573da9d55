use Rattle.std.proofs.Common.{◌≡◌, drop}
use Rattle.std.specs.List.{list_any}
use Rattle.tinyjson_schema_keywords.specs.Subschemas.{all_seen}
use Rattle.tinyjson_schema_drafts.specs.References.{has_id}
use Rattle.tinyjson_schema_drafts.proofs.wanted.is_some_id.Given as goal

abbrev pub invariant-loop-member : goal.invariant-loop-member
invariant-loop-member l = list_any (has_id l.uri) (all_seen l.members) ≡ list_any (has_id l.uri) (all_seen (drop l.member-index l.members))
