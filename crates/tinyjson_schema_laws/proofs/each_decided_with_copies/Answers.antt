use Rattle.tinyjson_schema_laws.proofs.CopiedLaws.{decided_copied}
use Rattle.tinyjson_schema_laws.proofs.each_decided_with_copies.Goals as goal

pub returns : goal.returns
returns c = decided_copied
