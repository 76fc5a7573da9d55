use Rattle.std.proofs.Common.{◌≡◌, ◌∙◌, refl, sym, ap, subst, codes, pos}
use Rattle.std.specs.Prelude.{OnOk}
use Rattle.std.specs.Str.{chars}
use Rattle.tinyjson.proofs.Callers.{chars_literal, view_Number}
use Rattle.tinyjson.specs.Number.{integer_decimal}
use Rattle.tinyjson.specs.Tree.{number, put}
use Rattle.tinyjson.specs.View.{view, members_view}
use Rattle.tinyjson.specs.declared.value.JsonValue.TheVariants as is
use Rattle.tinyjson_schema_report.specs.Report.{with_line}
use Rattle.tinyjson_schema_report.proofs.report.put_line.Goals as goal

pub returns-in_ok-number-in-Some : goal.returns-in_ok-number-in-Some
returns-in_ok-number-in-Some c =
    let n = c.in_ok-number-in-Some.number in
    let old = members_view c.args.members.now.entries in
    let tree : view (is.Number n) ≡ number (integer_decimal (pos c.in-Some.number))
    = view_Number n ∙ ap number c.in_ok-number-in-Some.ensures.decimal in
    let same : put (chars (codes "line")) (view (is.Number n)) old ≡ with_line c.args.line old
    = ap (λ k. put k (view (is.Number n)) old) (chars_literal (codes "line") refl)
    ∙ (ap (λ t. put (codes "line") t old) tree ∙ ap (λ o. with_line o old) (sym c.in-Some.is)) in
    subst (λ ms. OnOk c.put_member.result (members_view c.put_member.new.members.entries ≡ ms)) same c.put_member.ensures.ok
