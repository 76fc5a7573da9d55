use Rattle.std.proofs.Common.{◌≡◌, ◌∙◌, refl, sym, ap, codes, pos}
use Rattle.tinyjson.proofs.Callers.{chars_literal, view_Number, view_Object}
use Rattle.tinyjson.specs.Number.{integer_decimal}
use Rattle.tinyjson.specs.Tree.{number, object, put}
use Rattle.tinyjson.specs.View.{view, members_view}
use Rattle.tinyjson.specs.declared.value.JsonValue.TheVariants as is
use Rattle.tinyjson_schema_report.specs.Located.{with_column}
use Rattle.tinyjson_schema_report.proofs.located.with_column.Goals as goal

pub returns-in_ok-put_member-in-Object : goal.returns-in_ok-put_member-in-Object
returns-in_ok-put_member-in-Object c =
    let n = c.in_ok-number-in-Object.number in
    let old = members_view c.in-Object.members.entries in
    let tree : view (is.Number n) ≡ number (integer_decimal (pos c.args.column))
    = view_Number n ∙ ap number c.in_ok-number-in-Object.ensures.decimal in
    view_Object c.put_member.new.members
    ∙ (ap object (c.in_ok-put_member-in-Object.ensures.ok
    ∙ (ap (λ k. put k (view (is.Number n)) old) (chars_literal (codes "column") refl) ∙ ap (λ t. put (codes "column") t old) tree))
    ∙ ap (with_column c.args.column) (sym (ap view c.in-Object.is ∙ view_Object c.in-Object.members)))
