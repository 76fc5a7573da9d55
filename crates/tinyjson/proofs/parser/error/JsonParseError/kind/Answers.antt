use Rattle.std.proofs.Common.{refl}
use Rattle.tinyjson.proofs.parser.error.JsonParseError.kind.Goals as goal

pub returns : goal.returns
returns c = refl
