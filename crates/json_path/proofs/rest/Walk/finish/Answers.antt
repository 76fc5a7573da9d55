use Rattle.std.proofs.Common.{◌++◌, subst, arith}
use Rattle.std.proofs.lemmas.Result.{MatchResult-from_err}
use Rattle.tinyjson.proofs.Callers.{stops_then, written_then}
use Rattle.tinyjson.specs.Written.{Written}
use Rattle.json_path.proofs.Leaving.{stack_last, weight_last}
use Rattle.json_path.specs.Left.{left_bytes, stack_bytes}
use Rattle.json_path.specs.Places.{has_path}
use Rattle.json_path.proofs.rest.Walk.finish.Goals as goal

pub returns-in_err-resume : goal.returns-in_err-resume
returns-in_err-resume g c =
    let gone = has_path c.args.self.now.places.now in
    let popped = stack_last gone _ _ _ c.in-Some.ensures.items in
    MatchResult-from_err _ _ _ c.from_residual.ensures.0
    (λ _. stops_then _ (subst (Written _ _ (stack_bytes gone c.args.stack.now.items)) popped c.loop-left.invariant)
    c.in_err-resume.ensures.sent)

pub loop-left-preserved : goal.loop-left-preserved
loop-left-preserved g c =
    let gone = has_path c.args.self.now.places.now in
    let popped = stack_last gone _ _ _ c.in-Some.ensures.items in
    written_then _ (stack_bytes gone c.resume.new.stack.items)
    (subst (Written _ _ (stack_bytes gone c.args.stack.now.items)) popped c.loop-left.invariant) c.in_ok-resume.ensures.sent

pub loop-left-smaller : goal.loop-left-smaller
loop-left-smaller g c =
    let n = weight_last _ _ _ c.in-Some.ensures.items in
    let h = c.in_ok-resume.ensures.less in
    omega (arith, n, h)
