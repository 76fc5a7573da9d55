use Rattle.std.proofs.Common.{◌∙◌, ap, sym}
use Rattle.tinyjson_document.specs.Document.{members_left}
use Rattle.tinyjson_view.proofs.Filling.{members_before, one_more_member, no_more_members}
use Rattle.tinyjson_view.specs.declared.view.ValueView.TheVariants.{InDocument}
use Rattle.tinyjson_view.proofs.parts.named_nodes.Goals as goal

pub loop-key-preserved : goal.loop-key-preserved
loop-key-preserved c =
    let es = c.loop-key.listed.items in
    ap (λ xs. members_before xs (members_left c.next.new.self)) c.in_ok-push.ensures.items
    ∙ (one_more_member es (record { key = c.in-Some.key; value = InDocument c.in-Some.member }) (members_left c.next.new.self)
    ∙ (ap (members_before es) (sym c.in-Some.ensures.steps) ∙ c.loop-key.invariant))

pub returns : goal.returns
returns c =
    let es = c.loop-key.listed.items in
    no_more_members es ∙ (ap (members_before es) (sym c.in-None.ensures.steps.0) ∙ c.loop-key.invariant)
