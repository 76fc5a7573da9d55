use Rattle.std.proofs.Common.{arith, inl, inr}
use Rattle.std.proofs.lemmas.Bool.Decides.{nat_tests}
use Rattle.tinyjson_number.proofs.NormalTexts.{normal_parts}
use Rattle.tinyjson_number.proofs.parse.is_normal.Goals as goal

pub returns-then-is_empty : goal.returns-then-is_empty
returns-then-is_empty c = λ h.
    normal_parts c.args.parts c.if-is_some.ensures c.requires.some_digit c.if-parts-eq48.false c.if-parts-gt-NORMAL_DIGITS.false
    (inl (grind (arith, nat_tests)))

pub returns-else-is_empty : goal.returns-else-is_empty
returns-else-is_empty c = λ h.
    normal_parts c.args.parts c.if-is_some.ensures c.requires.some_digit c.if-parts-eq48.false c.if-parts-gt-NORMAL_DIGITS.false
    (inr (grind (arith, nat_tests)))
