use Rattle.tinyjson_schema.proofs.Deep.{shallow}
use Rattle.tinyjson_schema.proofs.validate.unevaluated.evaluates_member.Goals as goal

pub returns-in_err-part : goal.returns-in_err-part
returns-in_err-part c = shallow _ c.in_err-part.field-0.0 c.from_residual.result c.from_residual.ensures.1 c.in_err-part.ensures
