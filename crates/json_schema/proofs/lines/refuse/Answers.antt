use Rattle.std.proofs.Common.{refl}
use Rattle.tinyjson.proofs.Callers.{Appends_written, begins, stop}
use Rattle.json_schema.proofs.Handling.{refuse_failed}
use Rattle.json_schema.proofs.lines.refuse.Goals as goal

pub returns-in_err-flush : goal.returns-in_err-flush
returns-in_err-flush g c =
    refuse_failed c.args.check c.args.number c.args.cause _ _ _ c.flush.ensures.bytes _
    c.from_residual.result c.from_residual.ensures.0 (stop begins)

pub returns-in_err-tell_line : goal.returns-in_err-tell_line
returns-in_err-tell_line g c =
    refuse_failed c.args.check c.args.number c.args.cause _ _ _ c.flush.ensures.bytes _
    c.from_residual-in_err-tell_line.result c.from_residual-in_err-tell_line.ensures.0 c.in_err-tell_line.ensures

pub returns : goal.returns
returns g c = (refl, c.flush.ensures.bytes, Appends_written _ _ _ c.in_ok-tell_line.ensures)
