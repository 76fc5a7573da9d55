use Rattle.std.proofs.Common.{subst, true, false}
use Rattle.std.proofs.lemmas.Result.{MatchResult-from_err}
use Rattle.tinyjson.proofs.Callers.{fails, goes, stop}
use Rattle.tinyjson.specs.Written.{Written}
use Rattle.tinyjson_path.specs.Selections.{left}
use Rattle.json_path.proofs.Writing.{took}
use Rattle.json_path.specs.Shapes.{begun, items_text}
use Rattle.json_path.proofs.array.write_items_begun.Goals as goal

pub returns-in_err-write_next : goal.returns-in_err-write_next
returns-in_err-write_next g c =
    fails _ (items_text c.args.shape false (left c.loop-next.rest)) c.from_residual.ensures.0 c.in_err-write_next.ensures
    (subst (λ o. Written (g.W.Write.contents c.args.output.now) (g.W.Write.contents c.loop-next.output)
    (items_text c.args.shape true (begun c.args.first (left c.args.rest.now)))
    (items_text c.args.shape c.loop-next.is_first (begun o (left c.loop-next.rest))))
    c.in-Some.is c.loop-next.invariant)

pub returns-in_err-next : goal.returns-in_err-next
returns-in_err-next g c = MatchResult-from_err _ _ _ c.from_residual-in_err-next.ensures.0 (λ _. stop
    (goes (items_text c.args.shape false (left c.loop-next.rest)) c.in_ok-write_next.ensures
    (subst (λ o. Written (g.W.Write.contents c.args.output.now) (g.W.Write.contents c.loop-next.output)
    (items_text c.args.shape true (begun c.args.first (left c.args.rest.now)))
    (items_text c.args.shape c.loop-next.is_first (begun o (left c.loop-next.rest))))
    c.in-Some.is c.loop-next.invariant)))

pub loop-next-preserved : goal.loop-next-preserved
loop-next-preserved g c =
    subst (λ ps. Written (g.W.Write.contents c.args.output.now) (g.W.Write.contents c.write_next.new.output)
    (items_text c.args.shape true (begun c.args.first (left c.args.rest.now))) (items_text c.args.shape false ps))
    (took (left c.loop-next.rest) (left c.next_of.new.selection) _ c.in_ok-next.ensures)
    (goes (items_text c.args.shape false (left c.loop-next.rest)) c.in_ok-write_next.ensures
    (subst (λ o. Written (g.W.Write.contents c.args.output.now) (g.W.Write.contents c.loop-next.output)
    (items_text c.args.shape true (begun c.args.first (left c.args.rest.now)))
    (items_text c.args.shape c.loop-next.is_first (begun o (left c.loop-next.rest))))
    c.in-Some.is c.loop-next.invariant))
