use Rattle.std.proofs.Common.{Some}
use Rattle.tinyjson.specs.View.{view}
use Rattle.tinyjson_c.proofs.Judging.{decides_tree}
use Rattle.tinyjson_c.specs.Schema.{schema_depth}
use Rattle.tinyjson_c.proofs.schema.check_by.Goals as goal

pub returns-in-Ok : goal.returns-in-Ok
returns-in-Ok c =
    decides_tree (Some (schema_depth c.args.depth)) (view c.args.tree.now) c.in-Ok.schema c.args.text.now c.check.result c.in-Ok.ensures
    c.check.ensures
