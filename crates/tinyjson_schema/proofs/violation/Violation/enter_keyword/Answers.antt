use Rattle.std.proofs.Common.{◌∙◌, ◌∷◌}
use Rattle.tinyjson_pointer.specs.Tokens.{tokens_of}
use Rattle.tinyjson_schema_keywords.proofs.Callers.{name_chars}
use Rattle.tinyjson_schema.proofs.violation.Violation.enter_keyword.Goals as goal

pub returns : goal.returns
returns c = (
  c.in_ok-put_under.ensures.0
      ∙ (λ i. name_chars c.args.keyword c.name.result.now c.name.ensures i ∷ tokens_of c.args.self.now.keyword_location),
  c.in_ok-put_under.ensures.1,
)
