use Rattle.std.proofs.Common.{subst}
use Rattle.std.proofs.lemmas.Result.{MatchResult-from_err}
use Rattle.tinyjson.proofs.Callers.{fails, goes, stop}
use Rattle.tinyjson.specs.Written.{Written}
use Rattle.tinyjson_path.specs.Selections.{left}
use Rattle.json_path.proofs.Writing.{took}
use Rattle.json_path.specs.Shapes.{begun, lines_of}
use Rattle.json_path.proofs.lines.write_lines_begun.Goals as goal

pub returns-in_err-write_line : goal.returns-in_err-write_line
returns-in_err-write_line g c =
    fails _ (lines_of c.args.shape (left c.loop-next.rest)) c.from_residual.ensures.0 c.in_err-write_line.ensures
    (subst (λ o. Written (g.W.Write.contents c.args.output.now) (g.W.Write.contents c.loop-next.output)
    (lines_of c.args.shape (begun c.args.first (left c.args.rest.now))) (lines_of c.args.shape (begun o (left c.loop-next.rest))))
    c.in-Some.is c.loop-next.invariant)

pub returns-in_err-next : goal.returns-in_err-next
returns-in_err-next g c = MatchResult-from_err _ _ _ c.from_residual-in_err-next.ensures.0 (λ _. stop
    (goes (lines_of c.args.shape (left c.loop-next.rest)) c.in_ok-write_line.ensures
    (subst (λ o. Written (g.W.Write.contents c.args.output.now) (g.W.Write.contents c.loop-next.output)
    (lines_of c.args.shape (begun c.args.first (left c.args.rest.now))) (lines_of c.args.shape (begun o (left c.loop-next.rest))))
    c.in-Some.is c.loop-next.invariant)))

pub loop-next-preserved : goal.loop-next-preserved
loop-next-preserved g c =
    subst (λ ps. Written (g.W.Write.contents c.args.output.now) (g.W.Write.contents c.write_line.new.output)
    (lines_of c.args.shape (begun c.args.first (left c.args.rest.now))) (lines_of c.args.shape ps))
    (took (left c.loop-next.rest) (left c.next_of.new.selection) _ c.in_ok-next.ensures)
    (goes (lines_of c.args.shape (left c.loop-next.rest)) c.in_ok-write_line.ensures
    (subst (λ o. Written (g.W.Write.contents c.args.output.now) (g.W.Write.contents c.loop-next.output)
    (lines_of c.args.shape (begun c.args.first (left c.args.rest.now))) (lines_of c.args.shape (begun o (left c.loop-next.rest))))
    c.in-Some.is c.loop-next.invariant))
