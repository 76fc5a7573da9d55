use Rattle.std.proofs.Common.{◌∷◌}
use Rattle.tinyjson_schema_drafts.specs.References.{seen}
use Rattle.json_schema.proofs.documents.with_documents.Goals as goal

pub loop-document-preserved : goal.loop-document-preserved
loop-document-preserved c =
    let i = c.loop-document.invariant in
    (_ ∷ i.0, (seen c.loop-document.compound, i.1, c.in_ok-compound-2.ensures))
