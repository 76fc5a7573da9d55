use Rattle.tinyjson_schema_laws.proofs.Alone.{exact_alone}
use Rattle.tinyjson_schema_laws.proofs.same_verdict_alone.Goals as goal

pub returns : goal.returns
returns c = exact_alone
