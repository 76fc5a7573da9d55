use Rattle.std.proofs.Common.{length}
use Rattle.tinyjson_pointer.proofs.walk.+replace_at.Given as goal

abbrev pub decreases-replace_at : goal.decreases-replace_at
decreases-replace_at l = length l.tokens.now
