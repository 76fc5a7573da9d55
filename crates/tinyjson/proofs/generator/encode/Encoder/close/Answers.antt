use Rattle.tinyjson_output.proofs.Callers.{sent_begins as begins, sent_goes as goes, sent_ends as ends, sent_fails as fails}
use Rattle.tinyjson.proofs.generator.encode.Encoder.close.Goals as goal

pub returns-in_err-newline-clause-sent : goal.returns-in_err-newline-clause-sent
returns-in_err-newline-clause-sent g c = fails _ c.args.bracket.now c.from_residual.ensures.0 c.in_err-newline.ensures.sent begins

pub returns-clause-sent : goal.returns-clause-sent
returns-clause-sent g c = ends _ _ _ _ _ _ c.write_bytes.ensures (goes c.args.bracket.now c.in_ok-newline.ensures.sent begins)
