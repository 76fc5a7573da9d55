use Rattle.std.proofs.Common.{◌≡◌, ◌∙◌, refl, ap, codes}
use Rattle.std.specs.Str.{chars}
use Rattle.tinyjson.proofs.Callers.{view_String}
use Rattle.tinyjson.specs.Tree.{string, no_members, put}
use Rattle.tinyjson.specs.View.{view, members_view}
use Rattle.tinyjson.specs.declared.value.JsonValue.TheVariants as made
use Rattle.tinyjson_pointer.specs.Text.{pointer_text}
use Rattle.tinyjson_pointer.specs.Tokens.{tokens_of}
use Rattle.tinyjson_diff.proofs.Documents.{literal}
use Rattle.tinyjson_pointer.proofs.Callers.{place_text}
use Rattle.tinyjson_diff.proofs.document.named.Goals as goal

pub returns : goal.returns
returns c =
    let name = c.in_ok-name.name in
    let path = c.in_ok-path.path in
    let none = members_view c.new-members.result.entries in
    let one = members_view c.put_member.new.members.entries in
    let named : view (made.String name) ≡ string (chars c.args.name.now)
    = view_String name ∙ ap string (ap chars c.in_ok-name.ensures.ok) in
    let placed : view (made.String path) ≡ string (pointer_text (tokens_of c.args.path.now))
    = view_String path ∙ ap string (place_text c.args.path.now path c.in_ok-path.ensures.ok) in
    let first : one ≡ put (codes "op") (string (chars c.args.name.now)) no_members
    = literal (codes "op") (view (made.String name)) none one refl c.in_ok-put_member.ensures.ok
    ∙ (ap (λ t. put (codes "op") t none) named
    ∙ ap (put (codes "op") (string (chars c.args.name.now))) (ap members_view c.new-members.ensures.empty)) in
    literal (codes "path") (view (made.String path)) one (members_view c.put_member-2.new.members.entries) refl
    c.in_ok-put_member-2.ensures.ok
    ∙ (ap (λ t. put (codes "path") t one) placed ∙ ap (put (codes "path") (string (pointer_text (tokens_of c.args.path.now)))) first)
