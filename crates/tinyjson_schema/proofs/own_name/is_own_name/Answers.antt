use Rattle.std.proofs.Common.{sym, ◌∙◌}
use Rattle.tinyjson.specs.View.{view}
use Rattle.tinyjson_schema_keywords.proofs.Callers.{no_plain_name, plain_name}
use Rattle.tinyjson_schema.proofs.own_name.is_own_name.Goals as goal

pub returns-then-is_plain_name : goal.returns-then-is_plain_name
returns-then-is_plain_name c =
    let d = c.args.document in
    plain_name (view d.whole.now.root.now) c.args.value.now c.in-String.name c.in-String.is c.as_str.result.now
    c.as_str-then-is_plain_name.result.now _ c.is_name.result c.as_str.ensures.value c.as_str-then-is_plain_name.ensures.value
    (sym c.is_plain_name.ensures ∙ c.if-is_plain_name.true) d.twice c.is_name.ensures

pub returns-else-is_plain_name : goal.returns-else-is_plain_name
returns-else-is_plain_name c =
    c.if-is_plain_name.false
    ∙ no_plain_name (view c.args.document.whole.now.root.now) c.args.value.now c.in-String.name c.in-String.is c.as_str.result.now
    c.as_str.ensures.value (sym c.is_plain_name.ensures ∙ c.if-is_plain_name.false)
