use Rattle.std.proofs.Common.{◌∷◌, ◌∙◌}
use Rattle.tinyjson_schema_keywords.specs.Names.{name}
use Rattle.tinyjson_schema.specs.declared.walk.CheckError.TheVariants.{OutOfMemory}
use Rattle.tinyjson_schema.proofs.Deep.{shallow}
use Rattle.tinyjson_schema.proofs.validate.at_keyword.Goals as goal

pub returns : goal.returns
returns c = (
  c.in_ok-enter_keyword.ensures.0 ∙ (λ i. name c.args.keyword ∷ c.of_schema-violation.ensures.0 i),
  c.in_ok-enter_keyword.ensures.1 ∙ c.of_schema-violation.ensures.1,
)

pub returns-in_err-enter_keyword : goal.returns-in_err-enter_keyword
returns-in_err-enter_keyword c = shallow _ OutOfMemory c.from_residual.result c.from_residual.ensures.1 tt
