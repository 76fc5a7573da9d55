use Rattle.std.proofs.Common.{◌∙◌, subst}
use Rattle.std.specs.Prelude.{IfOk}
use Rattle.std.specs.Str.{IsUtf8, chars}
use Rattle.tinyjson_schema_report.specs.Verdicts.{judged, TextGives}
use Rattle.json_schema.proofs.Verdicts.{gives_of_line}
use Rattle.json_schema.proofs.verdict.check_line.Goals as goal

pub returns-in-Ok : goal.returns-in-Ok
returns-in-Ok c =
    let s = judged c.args.judge in
    gives_of_line s c.args.line.now c.check_text.result
    (subst IsUtf8 c.content.ensures c.in-Ok.ensures.cases.1)
    (subst (λ bs. IfOk c.check_text.result (TextGives s (chars bs))) (c.in-Ok.ensures.cases.0 ∙ c.content.ensures) c.check_text.ensures)
