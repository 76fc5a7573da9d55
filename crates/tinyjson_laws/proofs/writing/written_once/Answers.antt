use Rattle.tinyjson_laws.proofs.WritingLaws.{written_once}
use Rattle.tinyjson_laws.proofs.writing.written_once.Goals as goal

pub returns : goal.returns
returns c = written_once
