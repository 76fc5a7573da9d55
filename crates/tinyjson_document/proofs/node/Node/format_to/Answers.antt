use Rattle.std.proofs.Common.{append-nil}
use Rattle.tinyjson.proofs.Callers.Laws.{two_spaces}
use Rattle.tinyjson_document.proofs.node.Node.format_to.Goals as goal

pub returns : goal.returns
returns g c = rw append-nil at (rw two_spaces at c.write.ensures)
