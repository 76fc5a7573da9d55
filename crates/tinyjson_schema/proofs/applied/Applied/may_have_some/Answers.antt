use Rattle.tinyjson.specs.View.{view}
use Rattle.tinyjson_schema_table.proofs.Callers.{absent_beside}
use Rattle.tinyjson_schema.proofs.applied.Applied.may_have_some.Goals as goal

pub returns : goal.returns
returns c apart k one = absent_beside c.args.self.now.marks c.args.set apart (view c.args.self.now.schema.now) k c.args.self.now.marked one
