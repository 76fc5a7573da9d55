use Rattle.std.proofs.Common.{◌∙◌, ◌∷◌, ◌++◌, [], Some, ap, sym}
use Rattle.text_iregexp.specs.Fronts.{item_front, token_of, class_front}
use Rattle.text_iregexp.proofs.TokenFronts.{goes_init, goes_item, goes_to, item_shorter, class_of, tail_nothing, tail_closed, tail_dash}
use Rattle.text_iregexp.proofs.TokenFronts.{tail_no_item, closing_nothing, closing_closed, closing_other, fronts_err}
use Rattle.text_iregexp.proofs.token.class_from.Goals as goal

pub loop-next-init : goal.loop-next-init
loop-next-init c =
    goes_init _ _ c.args.text.now (sym (c.in_ok-push.ensures.items ∙ ap (λ xs. xs ++ c.args.first ∷ []) c.new-items.ensures.items))

pub returns-then-next-eq93 : goal.returns-then-next-eq93
returns-then-next-eq93 c = λ n h.
    ap (class_of c.args.negated) (goes_to _ _ _ _ _ c.loop-next.invariant
    (λ m l. tail_closed m _ _ _ c.in-Some.next.now l c.in-Some.ensures.cases.0 c.if-next-eq93.true) n h)

pub returns-in_default-split_first : goal.returns-in_default-split_first
returns-in_default-split_first c = λ n h.
    ap (class_of c.args.negated) (goes_to _ _ _ _ _ c.loop-next.invariant
    (λ m l. tail_dash m _ _ _ c.in-Some.next.now l c.in-Some.ensures.cases.0 c.if-next-eq45.true
    ∙ closing_nothing _ _ c.in_default-split_first.ensures.cases) n h)

pub returns-then-last-ne93 : goal.returns-then-last-ne93
returns-then-last-ne93 c = λ n h.
    ap (class_of c.args.negated) (goes_to _ _ _ _ _ c.loop-next.invariant
    (λ m l. tail_dash m _ _ _ c.in-Some.next.now l c.in-Some.ensures.cases.0 c.if-next-eq45.true
    ∙ closing_other _ _ _ c.in-Some-split_first.last.now c.in-Some-split_first.ensures.cases.0 c.if-last-ne93.true) n h)

pub returns-then-next-eq45 : goal.returns-then-next-eq45
returns-then-next-eq45 c = λ n h.
    ap (class_of c.args.negated) (goes_to _ _ _ _ _ c.loop-next.invariant
    (λ m l. tail_dash m _ _ _ c.in-Some.next.now l c.in-Some.ensures.cases.0 c.if-next-eq45.true
    ∙ (closing_closed _ _ _ c.in-Some-split_first.last.now c.in-Some-split_first.ensures.cases.0 c.if-last-ne93.false
    ∙ ap (λ rs. Some (rs, c.in-Some-split_first.end.now)) (sym c.in_ok-push-2.ensures.items))) n h)

pub returns-in_err-item : goal.returns-in_err-item
returns-in_err-item c = λ n h.
    fronts_err token_of (λ r. r) (class_front n c.args.negated (c.args.first, c.args.text.now)) (item_front c.loop-next.rest.now)
    c.in_err-item.field-0.0 _ c.from_residual-in_err-item.ensures.1 c.in_err-item.ensures (λ l. l)
    (λ none. ap (class_of c.args.negated)
    (goes_to _ _ _ _ _ c.loop-next.invariant
    (λ m l. tail_no_item m _ _ _ c.in-Some.next.now l c.in-Some.ensures.cases.0 c.if-next-eq93.false c.if-next-eq45.false none) n h))

pub loop-next-smaller : goal.loop-next-smaller
loop-next-smaller c = item_shorter _ c.in_ok-item.item _ c.in_ok-item.ensures

pub loop-next-preserved : goal.loop-next-preserved
loop-next-preserved c =
    goes_item _ _ _ _ _ _ _ c.in-Some.next.now c.in_ok-item.item c.loop-next.invariant c.in-Some.ensures.cases.0
    c.if-next-eq93.false c.if-next-eq45.false c.in_ok-item.ensures c.in_ok-push-3.ensures.items

pub returns : goal.returns
returns c = λ n h.
    ap (class_of c.args.negated) (goes_to _ _ _ _ _ c.loop-next.invariant (λ m l. tail_nothing m _ _ c.in_default.ensures.cases) n h)
