use Rattle.tinyjson_laws.proofs.RefusalLaws.{one_answer}
use Rattle.tinyjson_laws.proofs.refusals.one_answer.Goals as goal

pub returns : goal.returns
returns c = one_answer
