use Rattle.std.proofs.Common.{◌&&◌, ◌∙◌, ap, arith}
use Rattle.tinyjson.proofs.Values.Comparison.{rests_eq_last, rests_weight_last, turn_deferred}
use Rattle.tinyjson.specs.private.Comparison.{rest_eq, rests_eq, rests_weight}
use Rattle.tinyjson.proofs.value.equality.compare_all.Goals as goal

pub loop-stack-smaller-in-Some : goal.loop-stack-smaller-in-Some
loop-stack-smaller-in-Some c =
    let popped = ap rests_weight c.in-Some.ensures.items ∙ rests_weight_last c.pop.new.self.items c.in-Some.outer in
    omega (arith, popped, c.in-Known-true.ensures.left)

pub loop-stack-smaller-in-Ok : goal.loop-stack-smaller-in-Ok
loop-stack-smaller-in-Ok c =
    let pushed = ap rests_weight c.in-Ok.ensures.items ∙ rests_weight_last c.loop-stack.stack.items c.in-Inside.outer in
    omega (arith, pushed, c.in-Inside.ensures.left)

pub loop-stack-preserved-in-Ok : goal.loop-stack-preserved-in-Ok
loop-stack-preserved-in-Ok c =
    let inner = rest_eq c.in-Inside.inner in
    let deferred = rests_eq c.loop-stack.stack.items in
    ap (λ rs. inner && rests_eq rs) c.in-Ok.ensures.items
    ∙ (ap (λ b. inner && b) (rests_eq_last c.loop-stack.stack.items c.in-Inside.outer)
    ∙ turn_deferred (rest_eq c.loop-stack.rest) deferred _ c.loop-stack.invariant inner
    (rest_eq c.in-Inside.outer) c.in-Inside.ensures.same)
