use Rattle.std.proofs.Common.{map, refl}
use Rattle.tinyjson.specs.View.{view}
use Rattle.tinyjson_schema_keywords.specs.Subschemas.{all_seen}
use Rattle.tinyjson_schema_drafts.specs.Meta.{published}
use Rattle.tinyjson_schema_drafts.specs.References.{wanted_among, wanted_of}
use Rattle.tinyjson_schema_drafts.proofs.Gathering.{gathered}
use Rattle.tinyjson_schema_drafts.proofs.wanted.wanted_among.Goals as goal

pub loop-draft-preserved : goal.loop-draft-preserved
loop-draft-preserved c =
    let s = view c.args.schema.now in
    let ms = all_seen c.args.members.now in
    gathered (λ ds. wanted_among ds s ms) (wanted_of s ms) c.args.drafts.now c.loop-draft.draft-index _
    (map published c.loop-draft.found.items) (wanted_among c.args.drafts.now s ms) (map published c.add_wanted.new.found.items)
    c.loop-draft-test.true (λ d ds. refl) c.in_ok-add_wanted.ensures c.loop-draft.invariant
