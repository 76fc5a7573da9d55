use Rattle.std.proofs.Common.{◌≡◌, ◌∙◌, [], ap, string_bytes}
use Rattle.tinyjson.proofs.Callers.{view_Object, view_String}
use Rattle.tinyjson.specs.Tree.{object, no_members, put}
use Rattle.tinyjson.specs.View.{members_view, view}
use Rattle.tinyjson.specs.declared.value.JsonValue.TheVariants as made
use Rattle.tinyjson_schema_drafts.specs.Documents.{string_of}
use Rattle.tinyjson_schema_keywords.proofs.Callers.{name_chars}
use Rattle.tinyjson_schema_keywords.specs.Names.{name}
use Rattle.tinyjson_schema_keywords.specs.declared.keyword.Keyword.TheVariants as kw
use Rattle.tinyjson_schema_drafts.proofs.retrieval.way_to.Goals as goal

pub returns : goal.returns
returns c =
    let none = members_view c.new-way.result.entries in
    let first : members_view c.put_member.new.members.entries ≡ put (name kw.Id) (string_of []) no_members =
    c.in_ok-put_member.ensures.ok ∙ (ap (λ k. put k (view (made.String c.new.result)) none) (name_chars kw.Id _ c.name.ensures)
    ∙ (ap (λ t. put (name kw.Id) t none) (view_String c.new.result ∙ ap string_of c.new.ensures.bytes)
    ∙ ap (λ es. put (name kw.Id) (string_of []) (members_view es)) c.new-way.ensures.empty)) in
    let one = members_view c.put_member.new.members.entries in
    view_Object c.put_member-2.new.members ∙ ap object
    (c.in_ok-put_member-2.ensures.ok ∙ (ap (λ k. put k (view (made.String c.args.other)) one) (name_chars kw.Ref _ c.name-2.ensures)
    ∙ (ap (λ t. put (name kw.Ref) t one) (view_String c.args.other)
    ∙ ap (put (name kw.Ref) (string_of (string_bytes c.args.other))) first)))
