use Rattle.std.proofs.Common.{◌∙◌, ◌≡◌, ◌-◌, ap, sym, length, arith}
use Rattle.std.proofs.lemmas.Bool.Decides.{nat_tests}
use Rattle.text_formats.proofs.Pieces.{pieces_last}
use Rattle.text_formats.specs.Ip.{is_last}
use Rattle.text_formats.proofs.ip.+are_pieces.Goals as goal

pub returns-then-is_empty : goal.returns-then-is_empty
returns-then-is_empty t c =
    let none : length c.cut.result.1.now ≡ 0 = grind (arith, nat_tests) in
    c.is_last.ensures ∙ (ap (λ xs. is_last c.args.rules (c.args.left - 1) c.args.gap xs) c.cut.ensures.front
    ∙ sym (pieces_last c.args.rules c.args.left c.args.gap c.args.text.now c.cut.result.1.now c.if-left-eq0.false c.cut.ensures.rest none))
