use Rattle.tinyjson_laws.proofs.PrefixLaws.{shortest_in_order}
use Rattle.tinyjson_laws.proofs.prefixes.shortest_in_order.Goals as goal

pub returns : goal.returns
returns c = shortest_in_order
