use Rattle.std.proofs.Common.{length}
use Rattle.tinyjson_patch.proofs.boxes.release.Given as goal

abbrev pub decreases-loop-item : goal.decreases-loop-item
decreases-loop-item l = length l.rest.items
