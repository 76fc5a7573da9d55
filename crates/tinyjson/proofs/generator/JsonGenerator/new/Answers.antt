use Rattle.std.proofs.Common.{refl}
use Rattle.tinyjson.proofs.generator.JsonGenerator.new.Goals as goal

pub returns-clause-indent : goal.returns-clause-indent
returns-clause-indent g c = refl
