use Rattle.std.proofs.Common.{refl, sym}
use Rattle.text_iregexp.proofs.Levels.{settle_stands}
use Rattle.text_iregexp.proofs.reader.Level.settle.Goals as goal

pub returns-in_ok-push-clause-read : goal.returns-in_ok-push-clause-read
returns-in_ok-push-clause-read c = λ l s.
    settle_stands c.args.self.now _ c.in-Some.node l (sym c.in-Some.ensures.value) refl c.in_ok-push.ensures.items c.take.ensures.after s
