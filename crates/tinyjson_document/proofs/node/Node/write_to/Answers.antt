use Rattle.std.proofs.Common.{append-nil}
use Rattle.tinyjson_document.proofs.node.Node.write_to.Goals as goal

pub returns : goal.returns
returns g c = rw append-nil at c.write.ensures
