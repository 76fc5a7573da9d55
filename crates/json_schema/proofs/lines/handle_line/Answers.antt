use Rattle.std.proofs.Common.{[], ap, subst, sym}
use Rattle.std.proofs.KnownBytes.{Keeps-refl}
use Rattle.tinyjson.specs.Written.{Written}
use Rattle.json_schema.specs.Run.{outcome_of, shown_of, told_of}
use Rattle.tinyjson_schema_report.specs.Verdicts.{judged}
use Rattle.json_schema.specs.Verdicts.{GivesWithin}
use Rattle.json_schema.proofs.Handling.{within_checked, unhandled, line_shown, show_failed, line_refused}
use Rattle.json_schema.proofs.lines.handle_line.Goals as goal

pub returns-in_err-verdict : goal.returns-in_err-verdict
returns-in_err-verdict g c = λ w.
    unhandled c.args.check c.args.number c.args.line.now _ _ _ c.from_residual.result c.from_residual.ensures.0 (Keeps-refl _)

pub returns-in_err-show : goal.returns-in_err-show
returns-in_err-show g c = λ w.
    let k = c.args.check in
    let line = c.args.line.now in
    let v = c.in_ok-verdict.verdict in
    show_failed k c.args.number line _ _ v (within_checked k.max_line (judged k.judge) line v w c.in_ok-verdict.ensures) _
    c.from_residual-in_err-show.result c.from_residual-in_err-show.ensures.0 c.in_err-show.ensures

pub returns-in-Valid : goal.returns-in-Valid
returns-in-Valid g c = λ w.
    let k = c.args.check in
    let line = c.args.line.now in
    let v = c.in_ok-verdict.verdict in
    line_shown k c.args.number line _ _ v (within_checked k.max_line (judged k.judge) line v w c.in_ok-verdict.ensures) _ _
    (sym (ap outcome_of c.in-Valid.is)) (sym (ap (told_of k c.args.number) c.in-Valid.is)) c.in_ok-show.ensures

pub returns-in-Invalid : goal.returns-in-Invalid
returns-in-Invalid g c = λ w.
    let k = c.args.check in
    let line = c.args.line.now in
    let v = c.in_ok-verdict.verdict in
    line_shown k c.args.number line _ _ v (within_checked k.max_line (judged k.judge) line v w c.in_ok-verdict.ensures) _ _
    (sym (ap outcome_of c.in-Invalid.is)) (sym (ap (told_of k c.args.number) c.in-Invalid.is)) c.in_ok-show.ensures

pub returns : goal.returns
returns g c = λ w.
    let k = c.args.check in
    let line = c.args.line.now in
    let s = judged k.judge in
    let v = c.in_ok-verdict.verdict in
    line_refused k c.args.number line _ _ c.in-Refused.cause
    (subst (GivesWithin k.max_line s line) c.in-Refused.is (within_checked k.max_line s line v w c.in_ok-verdict.ensures)) _ _ _
    c.refuse.result
    (subst (λ x. Written (g.W.Write.contents c.args.output.now) (g.W.Write.contents c.show.new.output)
    (shown_of k c.args.number line x) []) c.in-Refused.is c.in_ok-show.ensures) c.refuse.ensures
