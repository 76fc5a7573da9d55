use Rattle.std.proofs.Common.{sym}
use Rattle.tinyjson.specs.View.{view}
use Rattle.tinyjson_schema_keywords.proofs.Lookups.{at_name}
use Rattle.tinyjson_schema_keywords.proofs.subschemas.schema_at.Goals as goal

pub returns : goal.returns
returns c = sym (at_name _ (view c.args.schema.now) c.args.keyword c.name.result.now c.operand.ensures c.name.ensures)
