use Rattle.std.proofs.Common.{refl}
use Rattle.tinyjson.proofs.generator.JsonGenerateError.message.Goals as goal

pub returns : goal.returns
returns c = refl
