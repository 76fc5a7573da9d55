use Rattle.tinyjson_laws.proofs.WritingLaws.{compact_within}
use Rattle.tinyjson_laws.proofs.writing.compact_within.Goals as goal

pub returns : goal.returns
returns c = compact_within
