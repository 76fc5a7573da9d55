use Rattle.std.proofs.Common.{◌≡◌, ◌∙◌, ap, subst}
use Rattle.std.specs.Prelude.{OnOk}
use Rattle.std.specs.Str.{chars}
use Rattle.tinyjson.proofs.Callers.{view_String}
use Rattle.tinyjson.specs.Tree.{string, put}
use Rattle.tinyjson.specs.View.{view, members_view}
use Rattle.tinyjson.specs.declared.value.JsonValue.TheVariants as is
use Rattle.tinyjson_schema_report.specs.Report.{place_tree}
use Rattle.tinyjson_pointer.proofs.Callers.{place_text}
use Rattle.tinyjson_schema_report.proofs.report.put_place.Goals as goal

pub returns : goal.returns
returns c =
    let text = c.in_ok-text.text in
    let tree : view (is.String text) ≡ place_tree c.args.place.now
    = view_String text ∙ ap string (place_text c.args.place.now text c.in_ok-text.ensures.ok) in
    subst (λ t. OnOk c.put_member.result (members_view c.put_member.new.members.entries
    ≡ put (chars c.args.key.now) t (members_view c.args.members.now.entries))) tree c.put_member.ensures.ok
