use Rattle.std.proofs.Common.{refl}
use Rattle.text_iregexp.proofs.Levels.{assertion_stands}
use Rattle.text_iregexp.proofs.reader.Level.put_assertion.Goals as goal

pub returns-clause-read : goal.returns-clause-read
returns-clause-read c = λ l s.
    assertion_stands c.settle.new.self _ c.assertion.result l c.args.kind (c.in_ok-settle.ensures.read l s) c.assertion.ensures refl
    c.in_ok-push.ensures.items refl
