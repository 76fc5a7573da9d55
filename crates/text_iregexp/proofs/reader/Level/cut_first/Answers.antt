use Rattle.std.proofs.Common.{arith, length, refl}
use Rattle.text_iregexp.proofs.PatternBlank.{uncut, cut_nothing, first_cut}
use Rattle.text_iregexp.proofs.Reading.{none_left, tested_as}
use Rattle.text_iregexp.proofs.reader.Level.cut_first.Goals as goal

pub returns-then-not-first : goal.returns-then-not-first
returns-then-not-first c = λ l s. uncut c.args.self.now l c.args.first c.if-not-first.true s

pub returns-then-is_empty : goal.returns-then-is_empty
returns-then-is_empty c = λ l s.
    cut_nothing c.args.self.now l c.args.first
    (none_left _ _ (tested_as _ _ (length c.args.self.now.pieces.items) c.is_empty.ensures (omega (arith, c.args.self.now.pieces.ok.0)))
    c.if-is_empty.true) s

pub returns : goal.returns
returns c = λ l s. first_cut c.args.self.now _ l c.args.first c.if-not-first.false refl c.remove.ensures.by_index.2 refl s
