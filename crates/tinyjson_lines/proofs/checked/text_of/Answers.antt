use Rattle.std.proofs.Common.{arith}
use Rattle.tinyjson_lines.proofs.Beginnings.{cut_after_front, no_utf8}
use Rattle.tinyjson_lines.proofs.checked.text_of.Goals as goal

pub returns-then-part-len-gt3 : goal.returns-then-part-len-gt3
returns-then-part-len-gt3 c = λ rest u.
    no_utf8 c.args.part.now rest _ c.in-Err.ensures.cases.1 (omega (arith, c.if-part-len-gt3.true, c.valid_up_to-len.ensures)) u

pub returns-in-Ok-from_utf8 : goal.returns-in-Ok-from_utf8
returns-in-Ok-from_utf8 c =
    let u = c.in-Ok-from_utf8.ensures.cases in
    cut_after_front c.in-Ok-from_utf8.text.now c.args.part.now c.valid_up_to-len.result u.0 u.1
