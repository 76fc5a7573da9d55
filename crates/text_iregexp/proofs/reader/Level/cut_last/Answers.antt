use Rattle.std.proofs.Common.{arith, refl}
use Rattle.text_iregexp.proofs.PatternBlank.{uncut_last, last_cut}
use Rattle.text_iregexp.proofs.reader.Level.cut_last.Goals as goal

pub returns-then-not-last : goal.returns-then-not-last
returns-then-not-last c = λ l s. uncut_last c.args.self.now l c.args.last c.if-not-last.true s

pub returns : goal.returns
returns c = λ l s.
    last_cut c.args.self.now _ l c.args.last _ c.if-not-last.false (omega (arith, c.args.self.now.pieces.ok.0)) refl c.pop.ensures.rest
    refl s
