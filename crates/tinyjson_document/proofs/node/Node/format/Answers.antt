use Rattle.std.proofs.Common.{refl}
use Rattle.tinyjson.proofs.Callers.Laws.{two_spaces}
use Rattle.tinyjson_document.proofs.node.Node.format.Goals as goal

pub written-requires : goal.written-requires
written-requires c = rw two_spaces refl

pub returns : goal.returns
returns c = rw two_spaces at c.written.ensures
