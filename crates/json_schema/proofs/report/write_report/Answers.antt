use Rattle.std.proofs.lemmas.Result.{MatchResult-from_err}
use Rattle.tinyjson.proofs.Callers.{begins, stop}
use Rattle.json_schema.proofs.report.write_report.Goals as goal

pub returns-in_err-unit : goal.returns-in_err-unit
returns-in_err-unit g c = MatchResult-from_err _ _ _ c.from_residual.ensures.0 (λ _. stop begins)
