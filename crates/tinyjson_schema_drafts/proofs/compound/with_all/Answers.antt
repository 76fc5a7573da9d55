use Rattle.std.proofs.Common.{map, refl, sym, subst}
use Rattle.tinyjson_schema_keywords.proofs.Callers.{drop_end}
use Rattle.tinyjson_schema_drafts.specs.Meta.{published}
use Rattle.tinyjson_schema_drafts.specs.References.{EmbedsAll, seen}
use Rattle.tinyjson_schema_drafts.proofs.Embedding.{next_embedded}
use Rattle.tinyjson_schema_drafts.proofs.compound.with_all.Goals as goal

pub loop-document-preserved : goal.loop-document-preserved
loop-document-preserved c = λ r h.
    c.loop-document.invariant r (next_embedded c.args.documents.now c.loop-document.document-index _ (seen c.loop-document.whole)
    (seen c.in_ok-next.next) r c.loop-document-test.true c.in_ok-next.ensures.ok h)

pub returns-clause-ok : goal.returns-clause-ok
returns-clause-ok c =
    let r = seen c.loop-document.whole in
    c.loop-document.invariant r (subst (λ ds. EmbedsAll (map published ds) r r)
    (sym (drop_end c.args.documents.now c.loop-document.document-index c.loop-document-test.false)) refl)
