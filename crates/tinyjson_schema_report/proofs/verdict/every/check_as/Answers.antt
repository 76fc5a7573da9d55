use Rattle.std.proofs.Common.{subst, sym}
use Rattle.std.specs.Prelude.{IfOk}
use Rattle.std.specs.Str.{chars}
use Rattle.tinyjson_schema_report.specs.Verdicts.{TextGivesAs}
use Rattle.tinyjson_schema_report.specs.Verdicts.{judged}
use Rattle.tinyjson_schema_report.proofs.Violations.{every_of_verdict}
use Rattle.tinyjson_schema_report.proofs.verdict.every.check_as.Goals as goal

pub returns-in-Some : goal.returns-in-Some
returns-in-Some c =
    subst (λ m. IfOk c.check_every.result (TextGivesAs m (judged c.args.judge) (chars c.args.text.now))) (sym c.in-Some.is)
    c.check_every.ensures

pub returns-in_ok-verdict-in-None : goal.returns-in_ok-verdict-in-None
returns-in_ok-verdict-in-None c =
    let s = judged c.args.judge in
    let xs = chars c.args.text.now in
    subst (λ m. IfOk c.as_every.result (TextGivesAs m s xs)) (sym c.in-None.is)
    (every_of_verdict s xs c.in_ok-verdict-in-None.verdict c.as_every.result c.in_ok-verdict-in-None.ensures c.as_every.ensures)
