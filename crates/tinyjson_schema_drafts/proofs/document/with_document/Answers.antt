use Rattle.std.proofs.Common.{◌≡◌, ◌∙◌, chars, ap, ap₂, subst}
use Rattle.std.specs.Prelude.{IfOk}
use Rattle.tinyjson.proofs.Callers.{view_IsTree}
use Rattle.tinyjson.specs.View.{view}
use Rattle.text_uri.specs.Resolving.{resolved}
use Rattle.tinyjson_schema_keywords.proofs.Callers.{name_chars}
use Rattle.tinyjson_schema_keywords.specs.Names.{name}
use Rattle.tinyjson_schema_keywords.specs.declared.keyword.Keyword.TheVariants as kw
use Rattle.tinyjson_schema_drafts.specs.Documents.{found_at, with_member}
use Rattle.tinyjson_schema_drafts.proofs.Members.{definitions_put}
use Rattle.tinyjson_schema_drafts.proofs.document.with_document.Goals as goal

pub returns : goal.returns
returns c =
    let s = view c.args.schema in
    let u = c.args.uri.now in
    let all = view c.in_ok-all.all in
    let found = c.as_str.ensures.value ∙ (c.in_ok-found.ensures ∙ ap (λ b. resolved b u) c.base_of.ensures) in
    let resource = c.in_ok-resource.ensures ∙ ap₂ found_at found c.in_ok-object.ensures in
    let put = c.in_ok-all.ensures ∙ ap₂ (with_member (chars u)) resource c.apart-rest.ensures.defs in
    subst (λ t. IfOk c.with_member-2.result (λ v. view v ≡ t))
    (ap₂ (λ k r. with_member k all r) (name_chars kw.Defs _ c.name.ensures) c.apart-rest.ensures.rest
    ∙ (definitions_put s all (view_IsTree c.args.schema) ∙ ap (λ w. with_member (name kw.Defs) w s) put))
    c.with_member-2.ensures
