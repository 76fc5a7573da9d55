use Rattle.std.proofs.Common.{refl}
use Rattle.tinyjson.proofs.value.convert.JsonValueFromVecJsonValue.from.Goals as goal

pub returns : goal.returns
returns c = refl
