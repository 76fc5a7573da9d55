use Rattle.text_iregexp.specs.Fronts.{token_of, counts_front, number_front}
use Rattle.text_iregexp.proofs.TokenFronts.{fronts_err}
use Rattle.text_iregexp.proofs.Lexing.{no_most, large_most}
use Rattle.text_iregexp.proofs.token.counts.Goals as goal

pub returns-in_err-most : goal.returns-in_err-most
returns-in_err-most c =
    fronts_err token_of (λ n. n) (counts_front c.args.text.now) (number_front c.in-Some.after.now) c.in_err-most.field-0.0 _
    c.from_residual-in_err-most.ensures.1 c.in_err-most.ensures
    (large_most c.args.text.now _ _ c.in-Some.after.now c.in-Some.next.now c.in_ok-least.ensures c.in-Some.ensures.cases.0
    c.if-next-ne44.false)
    (no_most c.args.text.now _ _ c.in-Some.after.now _ c.in-Some.next.now c.in-Some-split_first.next.now c.in_ok-least.ensures
    c.in-Some.ensures.cases.0 c.if-next-ne44.false c.in-Some-split_first.ensures.cases.0 c.if-next-eq125-2.false)
