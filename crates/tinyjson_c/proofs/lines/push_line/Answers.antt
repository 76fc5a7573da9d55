use Rattle.tinyjson_c.proofs.Stopping.{stopped}
use Rattle.tinyjson_c.proofs.lines.push_line.Goals as goal

pub returns-in-Err-read : goal.returns-in-Err-read
returns-in-Err-read c =
    let h = c.in-Err-read.ensures in
    stopped _ _ _ h.consumed h.rest c.in-Err-read.error _ c.in-Ok.ensures.0 c.in-Ok.ensures.1 c.of.ensures h.whole h.answer.0 h.answer.1
    h.refused
