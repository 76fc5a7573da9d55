use Rattle.std.proofs.Common.{length}
use Rattle.text_formats.proofs.duration.+after_chain.Given as goal

abbrev pub decreases-after_chain : goal.decreases-after_chain
decreases-after_chain l = length l.units.now
