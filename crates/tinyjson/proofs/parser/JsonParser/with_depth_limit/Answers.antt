use Rattle.std.proofs.Common.{refl}
use Rattle.tinyjson.proofs.parser.JsonParser.with_depth_limit.Goals as goal

pub returns-clause-limit : goal.returns-clause-limit
returns-clause-limit g c = refl
