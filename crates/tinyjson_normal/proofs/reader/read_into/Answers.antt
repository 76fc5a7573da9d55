use Rattle.std.specs.Str.{chars}
use Rattle.tinyjson.proofs.Callers.{told_text, told_error}
use Rattle.tinyjson_normal.proofs.reader.read_into.Goals as goal

pub returns-in-Ok : goal.returns-in-Ok
returns-in-Ok g c =
    let is = g.E.Events.is c.args.events in
    told_text is c.args.limit (chars c.args.text.now) is c.in-Ok.events c.in-Ok.events c.in-Ok.ensures (λ t i x. i)

pub returns-in-Err : goal.returns-in-Err
returns-in-Err g c =
    let is = g.E.Events.is c.args.events in
    told_error is c.args.limit (chars c.args.text.now) is c.in-Err.error c.from.result c.in-Err.ensures c.from.ensures
