use Rattle.std.proofs.Common.{◌∙◌, refl}
use Rattle.std.specs.Str.{chars}
use Rattle.tinyjson_path_query.proofs.Reading.{reading, refused, no_characters}
use Rattle.tinyjson_path_query.proofs.query.Query.parse.Goals as goal

pub returns-in_default : goal.returns-in_default
returns-in_default c = no_characters _ _ refl refl

pub returns-in-Ok-query : goal.returns-in-Ok-query
returns-in-Ok-query c =
    reading c.as_slice-text.result.now (chars c.args.text.now) c.in-Ok-query.query (c.as_slice-text.ensures.value ∙ c.in-Ok.ensures)
    c.in-Ok-query.ensures

pub returns : goal.returns
returns c =
    refused c.as_slice-text.result.now (chars c.args.text.now) c.in-Err.refusal _
    (c.as_slice-text.ensures.value ∙ c.in-Ok.ensures) c.in-Err.ensures c.error.ensures.says c.error.ensures.memory c.error.ensures.place
