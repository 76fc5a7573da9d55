use Rattle.std.proofs.Common.{refl}
use Rattle.tinyjson.proofs.parser.error.JsonParseError.line.Goals as goal

pub returns : goal.returns
returns c = refl
