use Rattle.tinyjson_laws.proofs.WritingLaws.{indented_within}
use Rattle.tinyjson_laws.proofs.writing.indented_within.Goals as goal

pub returns : goal.returns
returns c = indented_within
