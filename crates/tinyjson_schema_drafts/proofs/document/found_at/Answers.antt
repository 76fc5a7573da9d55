use Rattle.std.proofs.Common.{◌≡◌, ap₂, subst}
use Rattle.std.specs.Prelude.{IfOk}
use Rattle.tinyjson.specs.View.{view}
use Rattle.tinyjson_schema_keywords.proofs.Callers.{name_chars}
use Rattle.tinyjson_schema_keywords.specs.declared.keyword.Keyword.TheVariants as kw
use Rattle.tinyjson_schema_drafts.specs.Documents.{with_member}
use Rattle.tinyjson_schema_drafts.proofs.document.found_at.Goals as goal

pub returns : goal.returns
returns c =
    let s = view c.args.schema in
    subst (λ t. IfOk c.with_member.result (λ v. view v ≡ t))
    (ap₂ (λ k w. with_member k w s) (name_chars kw.Id _ c.name.ensures) c.in_ok-id.ensures) c.with_member.ensures
