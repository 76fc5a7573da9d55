use Rattle.tinyjson_laws.proofs.CallLaws.{text_answered}
use Rattle.tinyjson_laws.proofs.calls.text_answered.Goals as goal

pub returns : goal.returns
returns c = text_answered
