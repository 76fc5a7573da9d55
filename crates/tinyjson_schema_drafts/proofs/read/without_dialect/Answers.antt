use Rattle.std.proofs.Common.{◌∙◌, sym, ap}
use Rattle.tinyjson.proofs.Callers.{view_Object}
use Rattle.tinyjson.specs.Tree.{object, remove}
use Rattle.tinyjson.specs.View.{view, members_view}
use Rattle.tinyjson_schema_keywords.specs.declared.keyword.Keyword.TheVariants as kw
use Rattle.tinyjson_schema_keywords.proofs.Callers.{name_chars}
use Rattle.tinyjson_schema_drafts.specs.Dialects.{without_dialect}
use Rattle.tinyjson_schema_drafts.proofs.read.without_dialect.Goals as goal

pub returns-in-Object : goal.returns-in-Object
returns-in-Object c =
    view_Object c.discard_member.new.members
    ∙ (ap object (c.discard_member.ensures
    ∙ ap (λ k. remove k (members_view c.in-Object.members.entries)) (name_chars kw.Schema _ c.name.ensures))
    ∙ ap without_dialect (sym (ap view c.in-Object.is ∙ view_Object c.in-Object.members)))
