use Rattle.std.proofs.Common.{◌∙◌, sym, ap}
use Rattle.tinyjson.proofs.Callers.{view_Object}
use Rattle.tinyjson.specs.Tree.{object, remove, find}
use Rattle.tinyjson.specs.View.{view, members_view}
use Rattle.tinyjson_schema_keywords.proofs.Callers.{name_chars}
use Rattle.tinyjson_schema_keywords.specs.declared.keyword.Keyword.TheVariants as kw
use Rattle.tinyjson_schema_drafts.specs.Documents.{or_empty, definitions, without_definitions}
use Rattle.tinyjson_schema_drafts.proofs.document.apart.Goals as goal

pub returns-in-Object-clause-rest : goal.returns-in-Object-clause-rest
returns-in-Object-clause-rest c =
    view_Object c.remove_member-defs.new.members
    ∙ (ap object (c.remove_member-defs.ensures.new
    ∙ ap (λ k. remove k (members_view c.in-Object.members.entries)) (name_chars kw.Defs _ c.name.ensures))
    ∙ ap without_definitions (sym (ap view c.in-Object.is ∙ view_Object c.in-Object.members)))

pub returns-in-Object-clause-defs : goal.returns-in-Object-clause-defs
returns-in-Object-clause-defs c =
    c.or_empty.ensures
    ∙ (ap or_empty (c.remove_member-defs.ensures.old_tree
    ∙ ap (λ k. find k (members_view c.in-Object.members.entries)) (name_chars kw.Defs _ c.name.ensures))
    ∙ ap definitions (sym (ap view c.in-Object.is ∙ view_Object c.in-Object.members)))
