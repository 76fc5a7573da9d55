use Rattle.std.proofs.lemmas.Result.{MatchResult-from_err}
use Rattle.tinyjson_output.proofs.Callers.{sent_flushes as flushes}
use Rattle.tinyjson.proofs.generator.encode.encode.Goals as goal

pub returns-in_err-value : goal.returns-in_err-value
returns-in_err-value g c =
    let h = rw (c.new-encoder.ensures.buffer, c.new-encoder.ensures.indent) at c.in_err-value.ensures in
    MatchResult-from_err _ _ _ c.from_residual.ensures.0 (λ _. h.part)

pub returns : goal.returns
returns g c = flushes _ _ _ _ _ _ (rw (c.new-encoder.ensures.buffer, c.new-encoder.ensures.indent) at c.in_ok-value.ensures)
    c.flush.ensures.written
