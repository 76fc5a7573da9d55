use Rattle.std.proofs.Common.{rules}
use Rattle.tinyjson.proofs.value.JsonValue.is_bool.Goals as goal

pub returns-in_default : goal.returns-in_default
returns-in_default c = search rules
