use Rattle.tinyjson_pointer.specs.Tokens.{tokens_of}
use Rattle.tinyjson_schema_report.proofs.Forbidden.{named_first, named_second}
use Rattle.tinyjson_schema_report.proofs.located.forbids_member.Goals as goal

pub returns-then-eq : goal.returns-then-eq
returns-then-eq c =
    named_first (tokens_of c.args.keyword.now) c.tokens.result.now c.in-Some.field-0-1.now c.in-Some.last.now c.as_str.result.now
    c.as_str.result.now c.eq.result c.eq.result c.in-Some.ensures.cases.0 c.tokens.ensures c.as_str.ensures.value c.eq.ensures c.if-eq.true

pub returns-else-eq : goal.returns-else-eq
returns-else-eq c =
    named_second (tokens_of c.args.keyword.now) c.tokens.result.now c.in-Some.field-0-1.now c.in-Some.last.now c.as_str.result.now
    c.as_str-else-eq.result.now c.eq.result c.eq-else-eq.result c.in-Some.ensures.cases.0 c.tokens.ensures c.as_str.ensures.value
    c.as_str-else-eq.ensures.value c.eq.ensures c.if-eq.false c.eq-else-eq.ensures
