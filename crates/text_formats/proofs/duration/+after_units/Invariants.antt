use Rattle.std.proofs.Common.{length}
use Rattle.text_formats.proofs.duration.+after_units.Given as goal

abbrev pub decreases-after_units : goal.decreases-after_units
decreases-after_units l = length l.units.now
