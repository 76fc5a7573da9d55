use Rattle.std.proofs.lemmas.Result.{MatchResult-from_err}
use Rattle.tinyjson.proofs.Callers.{begins, stop}
use Rattle.json_path.proofs.array.write_quoted_path.Goals as goal

pub returns-in_err-path_text : goal.returns-in_err-path_text
returns-in_err-path_text g c = MatchResult-from_err _ _ _ c.from_residual.ensures.0 (λ _. stop begins)
