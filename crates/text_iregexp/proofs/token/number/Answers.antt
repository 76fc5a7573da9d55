use Rattle.std.proofs.Common.{◌∙◌, sym}
use Rattle.text_iregexp.proofs.Lexing.{large_number}
use Rattle.text_iregexp.proofs.token.number.Goals as goal

pub returns-then-value-gt-SIZE : goal.returns-then-value-gt-SIZE
returns-then-value-gt-SIZE c =
    large_number _ _ _ _ c.in-Some.first.now c.in-Some-split_first.next.now c.loop-next.value c.in-Some.ensures.cases.0
    (sym c.is_digit.ensures ∙ c.if-not-is_digit.false) c.loop-next.invariant.same c.in-Some-split_first.ensures.cases.0
    (sym c.is_digit-in-Some-split_first.ensures ∙ c.if-not-is_digit-2.false) c.if-value-gt-SIZE.true
