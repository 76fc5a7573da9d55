use Rattle.std.proofs.Common.{subst, arith}
use Rattle.std.proofs.lemmas.Result.{MatchResult-from_err}
use Rattle.tinyjson.proofs.Callers.{stops_then, written_then}
use Rattle.tinyjson.specs.Written.{Written}
use Rattle.tinyjson_patch.proofs.Editing.Pieces.{stack_last, weight_last}
use Rattle.tinyjson_patch.specs.private.Text.{stack_bytes}
use Rattle.tinyjson_patch.proofs.edit.text.finish.Goals as goal

pub returns-in_err-resume : goal.returns-in_err-resume
returns-in_err-resume g c =
    let popped = stack_last _ _ _ c.in-Some.ensures.items in
    MatchResult-from_err _ _ _ c.from_residual.ensures.0
    (λ _. stops_then _ (subst (Written _ _ (stack_bytes c.args.stack.now.items)) popped c.loop-rest.invariant)
    c.in_err-resume.ensures.sent)

pub loop-rest-preserved : goal.loop-rest-preserved
loop-rest-preserved g c =
    let popped = stack_last _ _ _ c.in-Some.ensures.items in
    written_then _ (stack_bytes c.resume.new.stack.items)
    (subst (Written _ _ (stack_bytes c.args.stack.now.items)) popped c.loop-rest.invariant) c.in_ok-resume.ensures.sent

pub loop-rest-smaller : goal.loop-rest-smaller
loop-rest-smaller g c =
    let n = weight_last _ _ _ c.in-Some.ensures.items in
    let h = c.in_ok-resume.ensures.less in
    omega (arith, n, h)
