use Rattle.std.proofs.Common.{◌∙◌, ap, sym}
use Rattle.tinyjson_document.specs.Document.{items_left}
use Rattle.tinyjson_view.proofs.Filling.{before, one_more, no_more}
use Rattle.tinyjson_view.specs.declared.view.ValueView.TheVariants.{InDocument}
use Rattle.tinyjson_view.proofs.parts.nodes_of.Goals as goal

pub loop-item-preserved : goal.loop-item-preserved
loop-item-preserved c =
    let vs = c.loop-item.listed.items in
    ap (λ xs. before xs (items_left c.next.new.self)) c.in_ok-push.ensures.items
    ∙ (one_more vs (InDocument c.in-Some.item) (items_left c.next.new.self)
    ∙ (ap (before vs) (sym c.in-Some.ensures.steps) ∙ c.loop-item.invariant))

pub returns : goal.returns
returns c =
    let vs = c.loop-item.listed.items in
    no_more vs ∙ (ap (before vs) (sym c.in-None.ensures.steps.0) ∙ c.loop-item.invariant)
