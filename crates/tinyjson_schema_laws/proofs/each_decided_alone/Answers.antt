use Rattle.tinyjson_schema_laws.proofs.Alone.{decided_alone}
use Rattle.tinyjson_schema_laws.proofs.each_decided_alone.Goals as goal

pub returns : goal.returns
returns c = decided_alone
