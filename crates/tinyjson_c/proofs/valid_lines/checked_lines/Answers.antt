use Rattle.std.proofs.Common.{Some}
use Rattle.tinyjson.specs.View.{view}
use Rattle.tinyjson_c.proofs.JudgingLines.{decided_lines}
use Rattle.tinyjson_c.specs.Schema.{schema_depth}
use Rattle.tinyjson_c.proofs.valid_lines.checked_lines.Goals as goal

pub returns : goal.returns
returns c =
    decided_lines (Some (schema_depth c.args.depth)) c.args.bytes.now c.args.schema.now (view c.in-Ok.tree) c.check_by-verdict.result
    c.in-Ok.ensures c.check_by-verdict.ensures
