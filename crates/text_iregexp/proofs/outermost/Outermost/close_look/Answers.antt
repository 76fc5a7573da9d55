use Rattle.std.proofs.Common.{refl}
use Rattle.text_iregexp.proofs.OutermostCases.{look_closed}
use Rattle.text_iregexp.proofs.outermost.Outermost.close_look.Goals as goal

pub returns : goal.returns
returns c =
    look_closed c.args.self.now _ c.args.negated _ c.in_ok-root.ensures refl refl c.in_ok-push.ensures.items refl c.new.ensures
