use Rattle.std.proofs.Common.{◌≡◌, ◌++◌, drop, map}
use Rattle.tinyjson.specs.View.{view}
use Rattle.tinyjson_schema_drafts.specs.Meta.{published}
use Rattle.tinyjson_schema_drafts.specs.References.{lacking}
use Rattle.tinyjson_schema_drafts.proofs.wanted.add_lacking.Given as goal

abbrev pub invariant-loop-document : goal.invariant-loop-document
invariant-loop-document l =
    map published l.found.items ++ lacking (view l.schema) (map published (drop l.document-index l.documents))
    ≡ map published l.initial.found.items ++ lacking (view l.schema) (map published l.documents)
