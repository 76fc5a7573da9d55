use Rattle.std.proofs.Common.{◌≡◌, ◌∙◌, sym, ap, subst}
use Rattle.std.specs.Prelude.{IfOk}
use Rattle.tinyjson.proofs.Callers.{view_Boolean}
use Rattle.tinyjson.specs.Tree.{boolean}
use Rattle.tinyjson.specs.View.{view}
use Rattle.tinyjson_schema_keywords.proofs.Callers.{name_chars}
use Rattle.tinyjson_schema_keywords.specs.declared.keyword.Keyword.TheVariants as kw
use Rattle.tinyjson_schema_drafts.specs.Documents.{as_object}
use Rattle.tinyjson_schema_drafts.proofs.Members.{none_accepted}
use Rattle.tinyjson_schema_drafts.proofs.document.as_object.Goals as goal

pub returns-else-accepts : goal.returns-else-accepts
returns-else-accepts c =
    subst (λ t. IfOk c.with_member.result (λ v. view v ≡ t))
    (none_accepted c.new.result c.new-in-Boolean.result _ c.new.ensures.empty c.new-in-Boolean.ensures.empty
    (name_chars kw.Not _ c.name.ensures)
    ∙ ap as_object (sym (ap view c.in-Boolean.is ∙ (view_Boolean c.in-Boolean.accepts ∙ ap boolean c.if-accepts.false))))
    c.with_member.ensures
