use Rattle.tinyjson_schema_laws.proofs.SameLaws.{each_decided}
use Rattle.tinyjson_schema_laws.proofs.each_decided.Goals as goal

pub returns : goal.returns
returns c = each_decided
