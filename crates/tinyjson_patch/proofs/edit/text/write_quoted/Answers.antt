use Rattle.std.proofs.lemmas.Result.{MatchResult-from_err}
use Rattle.tinyjson.proofs.Callers.{begins, stop}
use Rattle.tinyjson_patch.proofs.edit.text.write_quoted.Goals as goal

pub returns-in_err-from_str : goal.returns-in_err-from_str
returns-in_err-from_str g c = MatchResult-from_err _ _ _ c.from_residual.ensures.0 (λ _. stop begins)
