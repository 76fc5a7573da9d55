use Rattle.std.proofs.Common.{[], subst, sym}
use Rattle.tinyjson.proofs.Callers.{begins}
use Rattle.tinyjson.specs.Written.{Written, WritesPrefix}
use Rattle.json_schema.specs.Run.{file_of, report_by}
use Rattle.json_schema.proofs.lines.show_finding.Goals as goal

pub returns-in-Reports : goal.returns-in-Reports
returns-in-Reports g c =
    subst (λ s. WritesPrefix (g.W.Write.contents c.args.output.now) (g.W.Write.contents c.write_report.new.w)
    (report_by s (file_of c.args.check) c.args.number c.args.located.now) c.write_report.result)
    (sym c.in-Reports.is) c.write_report.ensures

pub returns-in-Texts : goal.returns-in-Texts
returns-in-Texts g c =
    subst (λ s. WritesPrefix (g.W.Write.contents c.args.output.now) (g.W.Write.contents c.write_text.new.w)
    (report_by s (file_of c.args.check) c.args.number c.args.located.now) c.write_text.result) (sym c.in-Texts.is) c.write_text.ensures

pub returns-in-ValidLines : goal.returns-in-ValidLines
returns-in-ValidLines g c =
    subst (λ s. Written (g.W.Write.contents c.args.output.now) (g.W.Write.contents c.args.output.now)
    (report_by s (file_of c.args.check) c.args.number c.args.located.now) []) (sym c.in-ValidLines.is) begins

pub returns-in-OtherLines : goal.returns-in-OtherLines
returns-in-OtherLines g c =
    subst (λ s. Written (g.W.Write.contents c.args.output.now) (g.W.Write.contents c.args.output.now)
    (report_by s (file_of c.args.check) c.args.number c.args.located.now) []) (sym c.in-OtherLines.is) begins
