use Rattle.tinyjson_schema_laws.proofs.Read.{decided_read}
use Rattle.tinyjson_schema_laws.proofs.each_decided_read.Goals as goal

pub returns : goal.returns
returns c = decided_read
