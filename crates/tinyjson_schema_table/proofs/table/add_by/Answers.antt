use Rattle.tinyjson.specs.View.{view}
use Rattle.tinyjson_schema_table.proofs.Links.{nothing_added}
use Rattle.tinyjson_schema_table.proofs.table.add_by.Goals as goal

pub returns-in_default : goal.returns-in_default
returns-in_default c = nothing_added (view c.args.schema.now) c.args.shapes.now.items c.args.links.now.items
