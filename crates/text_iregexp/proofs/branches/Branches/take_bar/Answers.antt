use Rattle.std.proofs.Common.{refl}
use Rattle.text_iregexp.proofs.PatternBranches.{bar_taken}
use Rattle.text_iregexp.proofs.branches.Branches.take_bar.Goals as goal

pub returns : goal.returns
returns c =
    bar_taken c.args.self.now c.end_part.new.self.parts.items _ c.in_ok-end_part.ensures.part c.in_ok-end_part.ensures.fixed
    refl refl refl c.new-2.ensures.read
    c.new-2.ensures.size c.new.ensures.items
