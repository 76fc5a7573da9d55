use Rattle.std.proofs.Common.{[], ◌∷◌, sym, ap, ◌∙◌}
use Rattle.tinyjson_schema.specs.Steps.{spot_at}
use Rattle.tinyjson_schema_keywords.specs.Names.{name}
use Rattle.tinyjson_schema.proofs.Adding.{spot_at_tokens}
use Rattle.tinyjson_schema.proofs.validate.every.violation_at.Goals as goal

pub returns-in_ok-enter_keyword-in-Some : goal.returns-in_ok-enter_keyword-in-Some
returns-in_ok-enter_keyword-in-Some c =
    let k = c.in-Some.keyword in
    let at = c.in_ok-enter_keyword-in-Some.ensures in
    let first = c.of_schema-violation.ensures in
    spot_at_tokens (name k ∷ []) [] c.enter_keyword.new.self (at.0 ∙ (λ i. name k ∷ first.0 i), at.1 ∙ first.1)
    ∙ ap spot_at (sym c.in-Some.is)

pub returns-in-None : goal.returns-in-None
returns-in-None c = spot_at_tokens [] [] c.of_schema.result c.of_schema.ensures ∙ ap spot_at (sym c.in-None.is)
