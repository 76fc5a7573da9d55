use Rattle.std.proofs.Common.{rules}
use Rattle.tinyjson.proofs.value.JsonValue.get_mut.Goals as goal

pub returns : goal.returns
returns g c = search rules
