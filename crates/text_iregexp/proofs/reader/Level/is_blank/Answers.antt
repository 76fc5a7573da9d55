use Rattle.std.proofs.Common.{arith, length}
use Rattle.text_iregexp.proofs.PatternBlank.{blank_branches, blank_pieces, blank_last}
use Rattle.text_iregexp.proofs.Reading.{some_left, none_left, tested_as}
use Rattle.text_iregexp.proofs.reader.Level.is_blank.Goals as goal

pub returns-then-not-is_empty : goal.returns-then-not-is_empty
returns-then-not-is_empty c = λ l s.
    blank_branches c.args.self.now l
    (some_left _ _ (tested_as _ _ (length c.args.self.now.branches.items) c.is_empty.ensures (omega (arith, c.args.self.now.branches.ok.0)))
    c.if-not-is_empty.true) s

pub returns-then-not-is_empty-2 : goal.returns-then-not-is_empty-2
returns-then-not-is_empty-2 c = λ l s.
    blank_pieces c.args.self.now l
    (some_left _ _ (tested_as _ _ (length c.args.self.now.pieces.items) c.is_empty-2.ensures (omega (arith, c.args.self.now.pieces.ok.0)))
    c.if-not-is_empty-2.true) s

pub returns : goal.returns
returns c = λ l s.
    blank_last c.args.self.now l _ c.is_none.ensures
    (none_left _ _ (tested_as _ _ (length c.args.self.now.branches.items) c.is_empty.ensures (omega (arith, c.args.self.now.branches.ok.0)))
    c.if-not-is_empty.false)
    (none_left _ _ (tested_as _ _ (length c.args.self.now.pieces.items) c.is_empty-2.ensures (omega (arith, c.args.self.now.pieces.ok.0)))
    c.if-not-is_empty-2.false) s
