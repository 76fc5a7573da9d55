use Rattle.tinyjson_schema.proofs.Deep.{shallow}
use Rattle.tinyjson_schema.proofs.part.some_found.Goals as goal

pub returns-in_err-is_found : goal.returns-in_err-is_found
returns-in_err-is_found c = shallow _ c.in_err-is_found.field-0.0 c.from_residual.result c.from_residual.ensures.1 c.in_err-is_found.ensures
