use Rattle.tinyjson_schema_laws.proofs.CopiedLaws.{exact_copied}
use Rattle.tinyjson_schema_laws.proofs.same_verdict_with_copies.Goals as goal

pub returns : goal.returns
returns c = exact_copied
