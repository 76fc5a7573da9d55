use Rattle.tinyjson_schema_keywords.proofs.Lookups.{keyword_found}
use Rattle.tinyjson_schema_keywords.proofs.subschemas.operand.Goals as goal

pub returns-in-Object : goal.returns-in-Object
returns-in-Object c = keyword_found c.args.schema.now c.in-Object.keywords c.args.name.now c.found.result c.in-Object.is c.utf8.name
    c.found.ensures
