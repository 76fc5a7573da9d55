use Rattle.std.proofs.Common.{ap, length, arith}
use Rattle.tinyjson_output.proofs.Callers.{sent_begins as begins}
use Rattle.tinyjson.proofs.Writing.Runs.{item_on}
use Rattle.tinyjson.proofs.generator.quick.quick_items.Goals as goal

pub loop-item-init : goal.loop-item-init
loop-item-init c = (λ k held. begins, omega arith)

pub loop-item-preserved : goal.loop-item-preserved
loop-item-preserved c =
    let l = c.loop-item in
    let e = c.in-Some.ensures.cases.0 in (
      λ k held. item_on held k l.first l.rest.now c.in-Some.others.now c.in-Some.item.now _ _ e
          (rw c.if-not-quick_item.false at (c.quick_item.ensures k)) (l.invariant.0 k held),
      omega (arith, l.invariant.1, ap length e),
    )
