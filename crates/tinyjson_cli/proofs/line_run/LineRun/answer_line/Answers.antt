use Rattle.std.proofs.Common.{IsUtf8, ap, option_map, refl, subst, ◌∙◌}
use Rattle.tinyjson_cli.proofs.Answering.{answered_line}
use Rattle.tinyjson_cli.proofs.line_run.LineRun.answer_line.Goals as goal

pub returns : goal.returns
returns g c =
    answered_line g.T.Tool.gives c.args.self.now _ c.args.number _ _ c.in-Some.line.now
    (subst IsUtf8 c.content.ensures c.in-Ok.ensures.cases.1) refl (refl, refl, refl, refl) _ c.in-Ok.text.now c.answer.result
    (ap (option_map (λ s. s.now)) c.in-Some.is) (c.in-Ok.ensures.cases.0 ∙ c.content.ensures) c.answer.ensures
