use Rattle.std.proofs.Common.{refl}
use Rattle.tinyjson_schema_drafts.specs.Meta.{has_document, draft_4, draft_6, draft_7, draft_2019_09, draft_2020_12}
use Rattle.tinyjson_schema_drafts.proofs.Choosing.{taken, past}
use Rattle.tinyjson_schema_drafts.proofs.meta.meta_schemas.Goals as goal

pub returns-then-has_document : goal.returns-then-has_document
returns-then-has_document c =
    taken (λ ds. has_document ds c.args.uri.now) _ draft_2020_12 _ _ c.documents-draft_2020_12.ensures
    c.has_document.ensures c.if-has_document.true

pub returns-then-has_document-2 : goal.returns-then-has_document-2
returns-then-has_document-2 c =
    past (λ ds. has_document ds c.args.uri.now) _ draft_2020_12 _ _ _ c.documents-draft_2020_12.ensures
    c.has_document.ensures c.if-has_document.false (
    taken (λ ds. has_document ds c.args.uri.now) _ draft_2019_09 _ _ c.documents-draft_2019_09.ensures
    c.has_document-2.ensures c.if-has_document-2.true)

pub returns-then-has_document-3 : goal.returns-then-has_document-3
returns-then-has_document-3 c =
    past (λ ds. has_document ds c.args.uri.now) _ draft_2020_12 _ _ _ c.documents-draft_2020_12.ensures
    c.has_document.ensures c.if-has_document.false (
    past (λ ds. has_document ds c.args.uri.now) _ draft_2019_09 _ _ _ c.documents-draft_2019_09.ensures
    c.has_document-2.ensures c.if-has_document-2.false (
    taken (λ ds. has_document ds c.args.uri.now) _ draft_7 _ _ c.documents-draft_7.ensures
    c.has_document-3.ensures c.if-has_document-3.true))

pub returns-then-has_document-4 : goal.returns-then-has_document-4
returns-then-has_document-4 c =
    past (λ ds. has_document ds c.args.uri.now) _ draft_2020_12 _ _ _ c.documents-draft_2020_12.ensures
    c.has_document.ensures c.if-has_document.false (
    past (λ ds. has_document ds c.args.uri.now) _ draft_2019_09 _ _ _ c.documents-draft_2019_09.ensures
    c.has_document-2.ensures c.if-has_document-2.false (
    past (λ ds. has_document ds c.args.uri.now) _ draft_7 _ _ _ c.documents-draft_7.ensures
    c.has_document-3.ensures c.if-has_document-3.false (
    taken (λ ds. has_document ds c.args.uri.now) _ draft_6 _ _ c.documents-draft_6.ensures
    c.has_document-4.ensures c.if-has_document-4.true)))

pub returns-then-has_document-5 : goal.returns-then-has_document-5
returns-then-has_document-5 c =
    past (λ ds. has_document ds c.args.uri.now) _ draft_2020_12 _ _ _ c.documents-draft_2020_12.ensures
    c.has_document.ensures c.if-has_document.false (
    past (λ ds. has_document ds c.args.uri.now) _ draft_2019_09 _ _ _ c.documents-draft_2019_09.ensures
    c.has_document-2.ensures c.if-has_document-2.false (
    past (λ ds. has_document ds c.args.uri.now) _ draft_7 _ _ _ c.documents-draft_7.ensures
    c.has_document-3.ensures c.if-has_document-3.false (
    past (λ ds. has_document ds c.args.uri.now) _ draft_6 _ _ _ c.documents-draft_6.ensures
    c.has_document-4.ensures c.if-has_document-4.false (
    taken (λ ds. has_document ds c.args.uri.now) _ draft_4 _ _ c.documents-draft_4.ensures
    c.has_document-5.ensures c.if-has_document-5.true))))

pub returns : goal.returns
returns c =
    past (λ ds. has_document ds c.args.uri.now) _ draft_2020_12 _ _ _ c.documents-draft_2020_12.ensures
    c.has_document.ensures c.if-has_document.false (
    past (λ ds. has_document ds c.args.uri.now) _ draft_2019_09 _ _ _ c.documents-draft_2019_09.ensures
    c.has_document-2.ensures c.if-has_document-2.false (
    past (λ ds. has_document ds c.args.uri.now) _ draft_7 _ _ _ c.documents-draft_7.ensures
    c.has_document-3.ensures c.if-has_document-3.false (
    past (λ ds. has_document ds c.args.uri.now) _ draft_6 _ _ _ c.documents-draft_6.ensures
    c.has_document-4.ensures c.if-has_document-4.false (
    past (λ ds. has_document ds c.args.uri.now) _ draft_4 _ _ _ c.documents-draft_4.ensures
    c.has_document-5.ensures c.if-has_document-5.false (
    refl)))))
