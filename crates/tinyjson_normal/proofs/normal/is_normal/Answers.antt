use Rattle.std.proofs.lemmas.Bool.{false≢true}
use Rattle.std.specs.Str.{chars}
use Rattle.tinyjson_normal.proofs.Comparing.{of_written, of_none}
use Rattle.tinyjson_normal.proofs.normal.is_normal.Goals as goal

pub returns-in-Ok : goal.returns-in-Ok
returns-in-Ok c =
    let w = c.in-Ok.ensures.answer in
    of_written c.is_written.result (chars c.args.text.now) w.1 w.2 (c.is_written.ensures w.1 w.3)

pub returns-in-Err-2 : goal.returns-in-Err-2
returns-in-Err-2 c = of_none (chars c.args.text.now)
    (c.in-Err.ensures.refused (λ k. false≢true (c.if-is_out_of_memory.ensures.1 k)))
