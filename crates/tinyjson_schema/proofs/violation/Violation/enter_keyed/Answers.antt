use Rattle.std.proofs.Common.{◌∙◌, ◌∷◌, ap}
use Rattle.tinyjson_schema_keywords.specs.Names.{name}
use Rattle.tinyjson_schema.proofs.violation.Violation.enter_keyed.Goals as goal

pub returns : goal.returns
returns c = (
  c.in_ok-enter_keyword.ensures.0 ∙ ap (λ xs. name c.args.keyword ∷ xs) c.in_ok-put_under.ensures.0,
  c.in_ok-enter_keyword.ensures.1 ∙ c.in_ok-put_under.ensures.1,
)
