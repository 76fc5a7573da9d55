use Rattle.tinyjson_laws.proofs.WritingLaws.{limit_kept}
use Rattle.tinyjson_laws.proofs.writing.limit_kept.Goals as goal

pub returns : goal.returns
returns c = limit_kept
