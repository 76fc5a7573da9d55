use Rattle.tinyjson_laws.proofs.ReadingLaws.{one_tree}
use Rattle.tinyjson_laws.proofs.reading.one_tree.Goals as goal

pub returns : goal.returns
returns c = one_tree
