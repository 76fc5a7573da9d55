use Rattle.std.proofs.Common.{◌∙◌, Some, option_map, sym, ap, ap₂}
use Rattle.tinyjson.proofs.Callers.{view_Object}
use Rattle.tinyjson.specs.Tree.{object, put}
use Rattle.tinyjson.specs.View.{view, members_view}
use Rattle.tinyjson_schema_keywords.specs.declared.keyword.Keyword.TheVariants as kw
use Rattle.tinyjson_schema_keywords.proofs.Callers.{name_chars}
use Rattle.tinyjson_schema_bundle.specs.Scopes.{with_defs}
use Rattle.tinyjson_schema_bundle.proofs.copies.with_defs.Goals as goal

pub returns-in_ok-put_member-in-Object : goal.returns-in_ok-put_member-in-Object
returns-in_ok-put_member-in-Object c =
    let old = members_view c.in-Object.members.entries in
    let ds = members_view c.in-Some.defs.entries in
    view_Object c.put_member.new.members
    ∙ (ap object (c.in_ok-put_member-in-Object.ensures.ok
    ∙ ap₂ (λ k v. put k v old) (name_chars kw.Defs _ c.name.ensures) (view_Object c.in-Some.defs))
    ∙ ap (with_defs (Some ds)) (sym (ap view c.in-Object.is ∙ view_Object c.in-Object.members)))
    ∙ ap (λ o. with_defs (option_map (λ m. members_view m.entries) o) (view c.args.schema)) (sym c.in-Some.is)
