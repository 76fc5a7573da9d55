use Rattle.tinyjson_laws.proofs.CallLaws.{reads_back}
use Rattle.tinyjson_laws.proofs.calls.reads_back.Goals as goal

pub returns : goal.returns
returns c = reads_back
