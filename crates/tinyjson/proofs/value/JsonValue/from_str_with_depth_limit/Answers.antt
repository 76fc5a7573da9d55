use Rattle.tinyjson.proofs.value.JsonValue.from_str_with_depth_limit.Goals as goal

pub returns : goal.returns
returns c = c.parse_text.ensures
