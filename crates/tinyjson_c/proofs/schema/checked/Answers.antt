use Rattle.std.proofs.Common.{Some}
use Rattle.tinyjson_c.proofs.Judging.{decided}
use Rattle.tinyjson_c.specs.Schema.{schema_depth}
use Rattle.tinyjson.specs.View.{view}
use Rattle.tinyjson_c.proofs.schema.checked.Goals as goal

pub returns : goal.returns
returns c =
    decided (Some (schema_depth c.args.depth)) c.args.text.now c.args.schema.now (view c.in-Ok.tree) c.check_by-verdict.result
    c.in-Ok.ensures c.check_by-verdict.ensures
