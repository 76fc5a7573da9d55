use Rattle.std.proofs.Common.{Some}
use Rattle.tinyjson_c.proofs.Stopping.{stopped_by}
use Rattle.tinyjson_c.proofs.part.part.Goals as goal

pub returns : goal.returns
returns c =
    let e = c.in-Err-read_with_depth_limit in
    stopped_by _ (Some c.args.depth) c.args.text.now c.in-Ok.text.now e.error c.of.result c.in-Ok.ensures.0 c.in-Ok.ensures.1 c.of.ensures
    e.ensures
