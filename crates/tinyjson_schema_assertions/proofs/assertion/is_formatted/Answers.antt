use Rattle.std.proofs.Common.{◌∙◌, Some, None}
use Rattle.tinyjson_schema_assertions.proofs.Formatted.{formatted}
use Rattle.tinyjson_schema_assertions.proofs.assertion.is_formatted.Goals as goal

pub returns-in-Some : goal.returns-in-Some
returns-in-Some c =
    c.accepts.ensures ∙ formatted c.args.name.now c.as_str.result.now c.args.value.now (Some c.in-Some.format)
    c.as_str.ensures.value c.utf8.value c.in-Some.ensures

pub returns-in-None : goal.returns-in-None
returns-in-None c =
    formatted c.args.name.now c.as_str.result.now c.args.value.now None c.as_str.ensures.value c.utf8.value c.in-None.ensures
