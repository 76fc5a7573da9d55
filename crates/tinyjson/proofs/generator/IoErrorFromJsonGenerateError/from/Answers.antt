use Rattle.std.proofs.Common.{rules}
use Rattle.tinyjson.proofs.generator.IoErrorFromJsonGenerateError.from.Goals as goal

pub returns : goal.returns
returns c = search rules
