use Rattle.tinyjson_schema_laws.proofs.SameLaws.{same_verdict}
use Rattle.tinyjson_schema_laws.proofs.same_verdict.Goals as goal

pub returns : goal.returns
returns c = same_verdict
