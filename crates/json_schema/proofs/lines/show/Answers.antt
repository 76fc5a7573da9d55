use Rattle.std.proofs.Common.{[], cond, subst, sym, ◌∙◌}
use Rattle.tinyjson.proofs.Callers.{begins}
use Rattle.tinyjson.specs.Written.{Written, WritesPrefix}
use Rattle.json_schema.specs.Run.{file_of, line_text, report_of}
use Rattle.json_schema.proofs.lines.show.Goals as goal

pub returns-then-is_line_shown : goal.returns-then-is_line_shown
returns-then-is_line_shown g c =
    let k = c.args.check in
    subst (λ b. WritesPrefix (g.W.Write.contents c.args.output.now) (g.W.Write.contents c.write_content.new.output)
    (cond b (line_text c.args.line.now) (report_of c.args.verdict.now k.shows (file_of k) c.args.number)) c.write_content.result)
    (sym c.if-is_line_shown.true ∙ c.is_line_shown.ensures) c.write_content.ensures

pub returns-in-Invalid : goal.returns-in-Invalid
returns-in-Invalid g c =
    let k = c.args.check in
    subst (λ b. WritesPrefix (g.W.Write.contents c.args.output.now) (g.W.Write.contents c.show_finding.new.output)
    (cond b (line_text c.args.line.now) (report_of c.args.verdict.now k.shows (file_of k) c.args.number)) c.show_finding.result)
    (sym c.if-is_line_shown.false ∙ c.is_line_shown.ensures)
    (subst (λ v. WritesPrefix (g.W.Write.contents c.args.output.now) (g.W.Write.contents c.show_finding.new.output)
    (report_of v k.shows (file_of k) c.args.number) c.show_finding.result) (sym c.in-Invalid.is) c.show_finding.ensures)

pub returns-in-Valid : goal.returns-in-Valid
returns-in-Valid g c =
    let k = c.args.check in
    subst (λ b. Written (g.W.Write.contents c.args.output.now) (g.W.Write.contents c.args.output.now)
    (cond b (line_text c.args.line.now) (report_of c.args.verdict.now k.shows (file_of k) c.args.number)) [])
    (sym c.if-is_line_shown.false ∙ c.is_line_shown.ensures)
    (subst (λ v. Written (g.W.Write.contents c.args.output.now) (g.W.Write.contents c.args.output.now)
    (report_of v k.shows (file_of k) c.args.number) []) (sym c.in-Valid.is) begins)

pub returns-in-Refused : goal.returns-in-Refused
returns-in-Refused g c =
    let k = c.args.check in
    subst (λ b. Written (g.W.Write.contents c.args.output.now) (g.W.Write.contents c.args.output.now)
    (cond b (line_text c.args.line.now) (report_of c.args.verdict.now k.shows (file_of k) c.args.number)) [])
    (sym c.if-is_line_shown.false ∙ c.is_line_shown.ensures)
    (subst (λ v. Written (g.W.Write.contents c.args.output.now) (g.W.Write.contents c.args.output.now)
    (report_of v k.shows (file_of k) c.args.number) []) (sym c.in-Refused.is) begins)
