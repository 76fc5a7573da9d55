use Rattle.std.proofs.Common.{Err, Some, subst}
use Rattle.std.specs.Str.{chars}
use Rattle.tinyjson.specs.Events.{TellsText}
use Rattle.tinyjson_document.specs.Document.{HasTree}
use Rattle.tinyjson_c.proofs.Stopping.{stopped_by}
use Rattle.tinyjson_c.specs.Schema.{schema_depth}
use Rattle.tinyjson_c.proofs.schema.found.Goals as goal

pub returns-in-Err-read_with_depth_limit : goal.returns-in-Err-read_with_depth_limit
returns-in-Err-read_with_depth_limit c =
    let e = c.in-Err-read_with_depth_limit in
    let text = c.in-Ok.text.now in
    stopped_by HasTree (Some (schema_depth c.args.depth)) c.args.bytes.now text e.error c.of.result c.in-Ok.ensures.0 c.in-Ok.ensures.1
    c.of.ensures (subst (λ n. TellsText HasTree (Some n) (chars text) (Err e.error)) c.schema_depth.ensures e.ensures)
