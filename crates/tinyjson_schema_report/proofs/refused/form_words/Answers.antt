use Rattle.std.proofs.Common.{◌≡◌, ◌∙◌, IfOk, string_bytes, subst, sym, ap}
use Rattle.tinyjson.specs.View.{view}
use Rattle.tinyjson_schema_report.specs.Refused.{told, TellsForm}
use Rattle.tinyjson_schema_report.proofs.Refusing.{also, other_form}
use Rattle.tinyjson_schema_report.proofs.refused.form_words.Goals as goal

pub returns-in-Pattern : goal.returns-in-Pattern
returns-in-Pattern c =
    subst (λ f. IfOk c.pattern_words.result (λ s. TellsForm (view c.args.root.now) f (view c.args.value.now) (string_bytes s)))
    (sym c.in-Pattern.is) c.pattern_words.ensures

pub returns-in_ok-wanted-in-Reference : goal.returns-in_ok-wanted-in-Reference
returns-in_ok-wanted-in-Reference c =
    subst (λ f. IfOk c.told.result (λ s. TellsForm (view c.args.root.now) f (view c.args.value.now) (string_bytes s)))
    (sym c.in-Reference.is)
    (subst (λ x. IfOk c.told.result (λ s. string_bytes s ≡ told x (view c.args.value.now))) c.in_ok-wanted-in-Reference.ensures
    c.told.ensures)

pub returns-in_default : goal.returns-in_default
returns-in_default c =
    also c.told-in_default.result
    (λ s h. other_form (view c.args.root.now) c.args.form (view c.args.value.now) (string_bytes s) c.in_default.not-Pattern
    c.in_default.not-Reference (h ∙ ap (λ x. told x (view c.args.value.now)) c.wanted.ensures))
    c.told-in_default.ensures
