use Rattle.tinyjson_schema_drafts.specs.References.{seen}
use Rattle.json_schema.specs.Meta.{EmbedsSome, found_in}
use Rattle.json_schema.proofs.documents.with_documents.Given as goal

abbrev pub invariant-loop-document : goal.invariant-loop-document
invariant-loop-document l = EmbedsSome l.draft (found_in l.file (seen l.fn.compound)) (seen l.compound)
