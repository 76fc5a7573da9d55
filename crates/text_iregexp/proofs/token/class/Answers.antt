use Rattle.std.proofs.Common.{◌∙◌, ap, arith}
use Rattle.text_iregexp.specs.Fronts.{token_of, class_front}
use Rattle.std.specs.Prelude.{option_and_then}
use Rattle.text_iregexp.proofs.TokenFronts.{fronts_as, first_dash, first_item, item_shorter}
use Rattle.text_iregexp.proofs.token.class.Goals as goal

pub returns-then-next-eq45 : goal.returns-then-next-eq45
returns-then-next-eq45 c = λ n h.
    fronts_as token_of _ _ c.class_from.result (λ l. l)
    (first_dash n c.args.negated _ _ c.in-Some.next.now c.in-Some.ensures.cases.0 c.if-next-eq45.true)
    (c.class_from.ensures n (omega (arith, c.in-Some.ensures.cases.1)))

pub returns : goal.returns
returns c = λ n h.
    let shorter = item_shorter c.args.text.now c.in_ok-first.first c.in_ok-first.after.now c.in_ok-first.ensures in
    fronts_as token_of _ _ c.class_from-2.result (λ l. l)
    (first_item n c.args.negated _ _ c.in-Some.next.now c.in-Some.ensures.cases.0 c.if-next-eq45.false
    ∙ ap (option_and_then (class_front n c.args.negated)) c.in_ok-first.ensures)
    (c.class_from-2.ensures n (omega arith))
