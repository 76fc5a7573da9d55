use Rattle.std.proofs.Common.{◌≡◌, ◌∙◌, ◌+◌, drop, ap, sym}
use Rattle.std.specs.Str.{chars}
use Rattle.tinyjson.specs.Tree.{member}
use Rattle.tinyjson.specs.View.{view, members_listed}
use Rattle.tinyjson_view.proofs.Filling.{members_before, one_more_member, no_more_members, drop_at, drop_past}
use Rattle.tinyjson_view.specs.declared.view.ValueView.TheVariants.{InValue}
use Rattle.tinyjson_view.proofs.parts.named_values.Goals as goal

pub loop-key-preserved : goal.loop-key-preserved
loop-key-preserved c =
    let es = c.loop-key.listed.items in
    let i = c.loop-key.key-index in
    let p = c.loop-key-item.result in
    let rest = members_listed (drop (i + 1) c.args.members.now) in
    ap (λ xs. members_before xs rest) c.in_ok-push.ensures.items
    ∙ (one_more_member es (record { key = c.as_str.result; value = InValue p.1 }) rest
    ∙ (ap (λ bs. members_before es (member (chars bs) (view p.1.now) rest)) c.as_str.ensures.value
    ∙ (ap (λ xs. members_before es (members_listed xs)) (sym (drop_at c.args.members.now i p c.loop-key-test.true c.loop-key-item.is))
    ∙ c.loop-key.invariant)))

pub returns : goal.returns
returns c =
    let es = c.loop-key.listed.items in
    no_more_members es
    ∙ (ap (λ xs. members_before es (members_listed xs)) (sym (drop_past c.args.members.now c.loop-key.key-index c.loop-key-test.false))
    ∙ c.loop-key.invariant)
