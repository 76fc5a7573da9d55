use Rattle.std.proofs.Common.{◌≡◌, ◌∙◌, ◌+◌, drop, map, sym, ap, subst}
use Rattle.tinyjson.specs.View.{text}
use Rattle.tinyjson_schema_keywords.specs.References.{form_after, is_schema_form}
use Rattle.tinyjson_schema_keywords.specs.declared.keyword.Form.TheVariants as form
use Rattle.tinyjson_schema_keywords.proofs.References.{form_turn, form_end}
use Rattle.tinyjson_schema_keywords.proofs.reference.leads_to_schema.Goals as goal

pub loop-token-preserved : goal.loop-token-preserved
loop-token-preserved c =
    let ts = c.args.tokens.now in
    let i = c.loop-token.token-index in
    subst (λ f. form_after f (map text (drop (i + 1) ts)) ≡ form_after form.Schema (map text ts)) (sym c.form_in-form.ensures)
    (form_turn ts i c.token-item.result c.loop-token.form form.Schema c.loop-token-test.true c.token-item.is c.loop-token.invariant)

pub returns : goal.returns
returns c = c.is_schema_form.ensures
    ∙ ap is_schema_form (form_end c.args.tokens.now c.loop-token.token-index c.loop-token.form form.Schema c.loop-token-test.false
    c.loop-token.invariant)
