use Rattle.std.proofs.Common.{refl}
use Rattle.tinyjson.proofs.value.convert.JsonValueFromUnexpectedValue.from.Goals as goal

pub returns : goal.returns
returns c = refl
