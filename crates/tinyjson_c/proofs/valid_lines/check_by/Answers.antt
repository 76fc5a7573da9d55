use Rattle.std.proofs.Common.{Some}
use Rattle.tinyjson.specs.View.{view}
use Rattle.tinyjson_c.proofs.JudgingLines.{decides_lines_tree}
use Rattle.tinyjson_c.specs.Schema.{schema_depth}
use Rattle.tinyjson_c.proofs.valid_lines.check_by.Goals as goal

pub returns-in-Ok : goal.returns-in-Ok
returns-in-Ok c =
    decides_lines_tree (Some (schema_depth c.args.depth)) (view c.args.tree.now) c.in-Ok.schema c.args.bytes.now c.check_lines.result
    c.in-Ok.ensures c.check_lines.ensures
