use Rattle.tinyjson_laws.proofs.ReadingLaws.{wider_limit}
use Rattle.tinyjson_laws.proofs.reading.wider_limit.Goals as goal

pub returns : goal.returns
returns c = wider_limit
