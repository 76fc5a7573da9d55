use Rattle.tinyjson_schema_laws.proofs.Read.{exact_read}
use Rattle.tinyjson_schema_laws.proofs.same_verdict_read.Goals as goal

pub returns : goal.returns
returns c = exact_read
