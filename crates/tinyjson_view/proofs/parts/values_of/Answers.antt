use Rattle.std.proofs.Common.{◌≡◌, ◌∙◌, ◌+◌, drop, ap, sym}
use Rattle.tinyjson.specs.View.{items_view}
use Rattle.tinyjson_view.proofs.Filling.{before, one_more, no_more, drop_at, drop_past}
use Rattle.tinyjson_view.specs.declared.view.ValueView.TheVariants.{InValue}
use Rattle.tinyjson_view.proofs.parts.values_of.Goals as goal

pub loop-item-preserved : goal.loop-item-preserved
loop-item-preserved c =
    let vs = c.loop-item.listed.items in
    let i = c.loop-item.item-index in
    let rest = items_view (drop (i + 1) c.args.items.now) in
    ap (λ xs. before xs rest) c.in_ok-push.ensures.items
    ∙ (one_more vs (InValue _) rest
    ∙ (ap (λ xs. before vs (items_view xs)) (sym (drop_at c.args.items.now i c.item-item.result c.loop-item-test.true c.item-item.is))
    ∙ c.loop-item.invariant))

pub returns : goal.returns
returns c =
    let vs = c.loop-item.listed.items in
    no_more vs ∙ (ap (λ xs. before vs (items_view xs)) (sym (drop_past c.args.items.now c.loop-item.item-index c.loop-item-test.false))
    ∙ c.loop-item.invariant)
