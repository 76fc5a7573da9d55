use Rattle.std.proofs.Common.{refl}
use Rattle.text_iregexp.proofs.OutermostCases.{stands_first}
use Rattle.text_iregexp.proofs.outermost.Outermost.new.Goals as goal

pub returns : goal.returns
returns c = stands_first _ c.new.ensures.items c.new-2.ensures.items refl c.new-3.ensures
