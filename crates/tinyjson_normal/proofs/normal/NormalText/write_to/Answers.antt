use Rattle.std.proofs.Common.{append-nil}
use Rattle.tinyjson_normal.proofs.normal.NormalText.write_to.Goals as goal

pub returns : goal.returns
returns g c = λ t h. rw append-nil at (c.write.ensures t h)
