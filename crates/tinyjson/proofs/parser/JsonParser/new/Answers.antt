use Rattle.std.proofs.Common.{refl}
use Rattle.tinyjson.proofs.parser.JsonParser.new.Goals as goal

pub returns-clause-limit : goal.returns-clause-limit
returns-clause-limit g c = refl
