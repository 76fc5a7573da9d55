use Rattle.tinyjson.proofs.value.JsonValue.from_str.Goals as goal

pub returns : goal.returns
returns c = c.parse_text.ensures
