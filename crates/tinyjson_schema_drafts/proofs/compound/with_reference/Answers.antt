use Rattle.std.proofs.Common.{◌∙◌, sym, ap}
use Rattle.tinyjson.proofs.Callers.{view_Object}
use Rattle.tinyjson.specs.Tree.{object, put}
use Rattle.tinyjson.specs.View.{view, members_view}
use Rattle.tinyjson_schema_keywords.proofs.Callers.{name_chars}
use Rattle.tinyjson_schema_keywords.specs.declared.keyword.Keyword.TheVariants as kw
use Rattle.tinyjson_schema_drafts.specs.References.{with_reference}
use Rattle.tinyjson_schema_drafts.proofs.compound.with_reference.Goals as goal

pub returns-in_ok-put_member-in-Object : goal.returns-in_ok-put_member-in-Object
returns-in_ok-put_member-in-Object c =
    let w = view c.args.reference in
    let ms = members_view c.in-Object.members.entries in
    view_Object c.put_member.new.members
    ∙ (ap object (c.in_ok-put_member-in-Object.ensures.ok ∙ ap (λ k. put k w ms) (name_chars kw.Ref _ c.name.ensures))
    ∙ ap (with_reference w) (sym (ap view c.in-Object.is ∙ view_Object c.in-Object.members)))
