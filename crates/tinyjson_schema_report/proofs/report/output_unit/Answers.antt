use Rattle.std.proofs.Common.{◌≡◌, ◌∙◌, false, ap, codes}
use Rattle.std.specs.Str.{chars}
use Rattle.tinyjson.proofs.Callers.{view_Boolean, view_String}
use Rattle.tinyjson.specs.Tree.{string, put}
use Rattle.tinyjson.specs.View.{view, text, members_view}
use Rattle.tinyjson.specs.declared.value.JsonValue.TheVariants as is
use Rattle.tinyjson_schema_report.proofs.Reports.{report_made}
use Rattle.tinyjson_schema_report.proofs.report.output_unit.Goals as goal

pub returns : goal.returns
returns c =
    let none = members_view c.new-members.result.entries in
    let one = members_view c.put_member.new.members.entries in
    let two = members_view c.put_place.new.members.entries in
    let three = members_view c.put_place-2.new.members.entries in
    let four = members_view c.put_line.new.members.entries in
    let f = c.args.finding.now in
    let words : view (is.String c.in_ok-error.error) ≡ string (text f.words)
    = view_String c.in_ok-error.error ∙ ap string (ap chars (c.in_ok-error.ensures.ok ∙ c.as_str.ensures.value)) in
    report_made c.args.line f c.put_member-2.new.members none one two three four
    (ap members_view c.new-members.ensures.empty)
    (c.in_ok-put_member.ensures.ok ∙ ap (λ t. put (chars (codes "error")) t none) words)
    c.in_ok-put_place.ensures c.in_ok-put_place-2.ensures c.in_ok-put_line.ensures
    (c.in_ok-put_member-2.ensures.ok ∙ ap (λ t. put (chars (codes "valid")) t four) (view_Boolean false))
