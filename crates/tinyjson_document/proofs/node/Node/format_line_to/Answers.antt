use Rattle.tinyjson.proofs.Callers.Laws.{two_spaces}
use Rattle.tinyjson_document.proofs.node.Node.format_line_to.Goals as goal

pub returns : goal.returns
returns g c = rw two_spaces at c.write.ensures
