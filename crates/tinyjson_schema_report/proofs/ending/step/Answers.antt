use Rattle.std.proofs.Common.{◌∙◌, ap}
use Rattle.std.specs.Str.{chars}
use Rattle.tinyjson.specs.View.{view, text}
use Rattle.tinyjson_schema_report.proofs.Telling.{one_token}
use Rattle.tinyjson_schema_report.proofs.ending.step.Goals as goal

pub returns : goal.returns
returns c = c.find.ensures
    ∙ one_token (view c.args.value.now) (text c.args.token.now) _ _ _ c.in_ok-prepend.ensures.ok c.root-pointer.ensures
    (ap chars (c.in_ok-from_str.ensures.ok ∙ c.as_str.ensures.value))
