use Rattle.tinyjson.proofs.Writing.Scalars.{two_spaces}
use Rattle.tinyjson.proofs.value.JsonValue.format_to.Goals as goal

pub returns : goal.returns
returns g c = rw two_spaces at c.encode.ensures
