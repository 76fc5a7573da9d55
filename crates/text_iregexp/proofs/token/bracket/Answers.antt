use Rattle.std.proofs.Common.{length, arith}
use Rattle.text_iregexp.specs.Fronts.{token_of}
use Rattle.text_iregexp.proofs.TokenFronts.{fronts_as, bracket_caret, bracket_other}
use Rattle.text_iregexp.proofs.token.bracket.Goals as goal

pub returns-then-next-eq94 : goal.returns-then-next-eq94
returns-then-next-eq94 c =
    fronts_as token_of _ _ c.class.result (λ l. l)
    (bracket_caret _ _ c.in-Some.next.now c.in-Some.ensures.cases.0 c.if-next-eq94.true)
    (c.class.ensures (length c.in-Some.after.now) (omega arith))

pub returns : goal.returns
returns c =
    fronts_as token_of _ _ c.class-2.result (λ l. l)
    (bracket_other _ _ c.in-Some.next.now c.in-Some.ensures.cases.0 c.if-next-eq94.false)
    (c.class-2.ensures (length c.args.text.now) (omega arith))
