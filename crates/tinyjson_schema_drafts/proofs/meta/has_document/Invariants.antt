use Rattle.std.proofs.Common.{◌≡◌, drop, map}
use Rattle.tinyjson_schema_drafts.specs.Meta.{has_document, published}
use Rattle.tinyjson_schema_drafts.proofs.meta.has_document.Given as goal

abbrev pub invariant-loop-document : goal.invariant-loop-document
invariant-loop-document l = has_document (map published l.documents) l.uri
    ≡ has_document (map published (drop l.document-index l.documents)) l.uri
