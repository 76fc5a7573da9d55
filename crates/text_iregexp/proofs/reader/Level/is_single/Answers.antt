use Rattle.std.proofs.Common.{arith, length}
use Rattle.text_iregexp.proofs.PatternBlank.{single_branches, single_pieces, single_last}
use Rattle.text_iregexp.proofs.Reading.{some_left, none_left, tested_as}
use Rattle.text_iregexp.proofs.reader.Level.is_single.Goals as goal

pub returns-then-not-is_empty : goal.returns-then-not-is_empty
returns-then-not-is_empty c = λ l s.
    single_branches c.args.self.now l
    (some_left _ _ (tested_as _ _ (length c.args.self.now.branches.items) c.is_empty.ensures (omega (arith, c.args.self.now.branches.ok.0)))
    c.if-not-is_empty.true) s

pub returns-then-len-ne1 : goal.returns-then-len-ne1
returns-then-len-ne1 c = λ l s.
    single_pieces c.args.self.now l (λ e. c.if-len-ne1.true (omega (arith, c.len.ensures, c.args.self.now.pieces.ok.0, e))) s

pub returns : goal.returns
returns c = λ l s.
    single_last c.args.self.now l _ c.is_none.ensures
    (none_left _ _ (tested_as _ _ (length c.args.self.now.branches.items) c.is_empty.ensures (omega (arith, c.args.self.now.branches.ok.0)))
    c.if-not-is_empty.false) (omega (arith, c.len.ensures, c.if-len-ne1.false, c.args.self.now.pieces.ok.0)) s
