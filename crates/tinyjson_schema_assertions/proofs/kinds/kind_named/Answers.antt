use Rattle.tinyjson.specs.JsonKind.TheVariants as kind
use Rattle.tinyjson_schema_assertions.proofs.Operands.{named_kind}
use Rattle.tinyjson_schema_assertions.proofs.kinds.kind_named.Goals as goal

pub returns-in-null : goal.returns-in-null
returns-in-null c =
    named_kind c.args.name.now c.in-String.name c.as_str.result.now kind.Null c.in-String.is c.as_str.ensures.value c.in-null.is

pub returns-in-boolean : goal.returns-in-boolean
returns-in-boolean c =
    named_kind c.args.name.now c.in-String.name c.as_str.result.now kind.Boolean c.in-String.is c.as_str.ensures.value c.in-boolean.is

pub returns-in-number : goal.returns-in-number
returns-in-number c =
    named_kind c.args.name.now c.in-String.name c.as_str.result.now kind.Number c.in-String.is c.as_str.ensures.value c.in-number.is

pub returns-in-string : goal.returns-in-string
returns-in-string c =
    named_kind c.args.name.now c.in-String.name c.as_str.result.now kind.String c.in-String.is c.as_str.ensures.value c.in-string.is

pub returns-in-array : goal.returns-in-array
returns-in-array c =
    named_kind c.args.name.now c.in-String.name c.as_str.result.now kind.Array c.in-String.is c.as_str.ensures.value c.in-array.is

pub returns-in-object : goal.returns-in-object
returns-in-object c =
    named_kind c.args.name.now c.in-String.name c.as_str.result.now kind.Object c.in-String.is c.as_str.ensures.value c.in-object.is
