use Rattle.std.proofs.Common.{drop, map}
use Rattle.tinyjson_schema_drafts.specs.Meta.{published}
use Rattle.tinyjson_schema_drafts.specs.References.{EmbedsAll, Seen, seen}
use Rattle.tinyjson_schema_drafts.proofs.compound.with_all.Given as goal

abbrev pub invariant-loop-document : goal.invariant-loop-document
invariant-loop-document l = (r : Seen) → EmbedsAll (map published (drop l.document-index l.documents)) (seen l.whole) r
    → EmbedsAll (map published l.documents) (seen l.fn.compound) r
