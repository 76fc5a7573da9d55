use Rattle.tinyjson_laws.proofs.WritingLaws.{same_normal}
use Rattle.tinyjson_laws.proofs.writing.same_normal.Goals as goal

pub returns : goal.returns
returns c = same_normal
