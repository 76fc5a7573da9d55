use Rattle.tinyjson_laws.proofs.ReadingLaws.{wider_range}
use Rattle.tinyjson_laws.proofs.reading.wider_range.Goals as goal

pub returns : goal.returns
returns c = wider_range
