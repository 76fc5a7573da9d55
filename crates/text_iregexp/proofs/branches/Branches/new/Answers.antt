use Rattle.std.proofs.Common.{refl}
use Rattle.text_iregexp.proofs.PatternBranches.{at_first}
use Rattle.text_iregexp.proofs.branches.Branches.new.Goals as goal

pub returns : goal.returns
returns c = at_first _ c.args.fixed refl c.new.ensures.items refl refl c.new-3.ensures.read c.new-3.ensures.size c.new-2.ensures.items
