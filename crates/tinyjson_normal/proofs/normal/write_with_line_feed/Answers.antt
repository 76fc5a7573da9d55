use Rattle.std.proofs.lemmas.Result.{MatchResult-from_err}
use Rattle.tinyjson_output.proofs.Callers.{begins, stop}
use Rattle.tinyjson_normal.proofs.normal.write_with_line_feed.Goals as goal

pub returns-in_err-push-clause-line : goal.returns-in_err-push-clause-line
returns-in_err-push-clause-line g c = MatchResult-from_err _ _ _ c.from_residual.ensures.0 (λ _. stop begins)
