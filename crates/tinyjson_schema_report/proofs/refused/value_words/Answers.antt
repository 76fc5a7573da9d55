use Rattle.std.proofs.Common.{◌∙◌, IfOk, string_bytes, subst, sym}
use Rattle.tinyjson.specs.View.{view}
use Rattle.tinyjson_schema_report.specs.Refused.{TellsOlder}
use Rattle.tinyjson_schema_report.proofs.refused.value_words.Goals as goal

pub returns-then-is_lacking : goal.returns-then-is_lacking
returns-then-is_lacking c =
    subst (λ b. IfOk c.from_str.result
    (λ s. TellsOlder b (view c.args.refusal.root.now) c.args.need.form (view c.args.need.value.now) (string_bytes s)))
    (sym c.if-is_lacking.true ∙ c.is_lacking.ensures) c.from_str.ensures.ok

pub returns : goal.returns
returns c =
    subst (λ b. IfOk c.form_words.result
    (λ s. TellsOlder b (view c.args.refusal.root.now) c.args.need.form (view c.args.need.value.now) (string_bytes s)))
    (sym c.if-is_lacking.false ∙ c.is_lacking.ensures) c.form_words.ensures
