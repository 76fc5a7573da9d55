use Rattle.std.proofs.Common.{◌&&◌, ◌∙◌, ap, arith}
use Rattle.tinyjson_document.proofs.Comparing.{rests_eq_last, total_last, turn_deferred}
use Rattle.tinyjson_document.specs.Comparing.{rest_eq, rests_eq, total}
use Rattle.tinyjson_document.proofs.equality.compare_all.Goals as goal

pub loop-stack-smaller-in-Some : goal.loop-stack-smaller-in-Some
loop-stack-smaller-in-Some g c =
    let popped = ap total c.in-Some.ensures.items ∙ total_last c.pop.new.self.items c.in-Some.outer in
    omega (arith, popped, c.in-Known-true.ensures.left)

pub loop-stack-smaller-in-Ok : goal.loop-stack-smaller-in-Ok
loop-stack-smaller-in-Ok g c =
    let pushed = ap total c.in-Ok.ensures.items ∙ total_last c.loop-stack.stack.items c.in-Inside.outer in
    omega (arith, pushed, c.in-Inside.ensures.left)

pub loop-stack-preserved-in-Ok : goal.loop-stack-preserved-in-Ok
loop-stack-preserved-in-Ok g c =
    let tree = g.V.Other.tree in
    let inner = rest_eq tree c.in-Inside.inner in
    let deferred = rests_eq tree c.loop-stack.stack.items in
    ap (λ rs. inner && rests_eq tree rs) c.in-Ok.ensures.items
    ∙ (ap (λ b. inner && b) (rests_eq_last tree c.loop-stack.stack.items c.in-Inside.outer)
    ∙ turn_deferred (rest_eq tree c.loop-stack.rest) deferred _ c.loop-stack.invariant inner
    (rest_eq tree c.in-Inside.outer) c.in-Inside.ensures.same)
