use Rattle.std.proofs.Common.{refl}
use Rattle.tinyjson.proofs.parser.error.JsonParseError.column.Goals as goal

pub returns : goal.returns
returns c = refl
