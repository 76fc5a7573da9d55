use Rattle.tinyjson.proofs.value.JsonValue.write_to.Goals as goal

pub returns : goal.returns
returns g c = c.encode.ensures
