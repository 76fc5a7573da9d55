use Rattle.std.proofs.Common.{◌∙◌, subst}
use Rattle.std.proofs.lemmas.Result.{MatchResult-from_err}
use Rattle.tinyjson.proofs.Callers.{begins, stop}
use Rattle.tinyjson.specs.Written.{WritesPrefix}
use Rattle.json_schema.proofs.report.write_text.Goals as goal

pub returns-in_err-text : goal.returns-in_err-text
returns-in_err-text g c = MatchResult-from_err _ _ _ c.from_residual.ensures.0 (λ _. stop begins)

pub returns : goal.returns
returns g c =
    subst (λ bs. WritesPrefix (g.W.Write.contents c.args.w.now) (g.W.Write.contents c.write_all.new.out) bs c.write_all.result)
    (c.as_bytes.ensures.value ∙ c.in_ok-text.ensures) c.write_all.ensures
