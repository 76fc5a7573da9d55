use Rattle.std.proofs.Common.{◌≡◌, ◌++◌, drop, map}
use Rattle.tinyjson.specs.View.{view}
use Rattle.tinyjson_schema_keywords.specs.Subschemas.{all_seen}
use Rattle.tinyjson_schema_drafts.specs.Meta.{published}
use Rattle.tinyjson_schema_drafts.specs.References.{wanted_among}
use Rattle.tinyjson_schema_drafts.proofs.wanted.wanted_among.Given as goal

abbrev pub invariant-loop-draft : goal.invariant-loop-draft
invariant-loop-draft l =
    map published l.found.items ++ wanted_among (drop l.draft-index l.drafts) (view l.schema) (all_seen l.members)
    ≡ wanted_among l.drafts (view l.schema) (all_seen l.members)
