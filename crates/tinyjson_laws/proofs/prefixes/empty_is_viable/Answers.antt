use Rattle.tinyjson_laws.proofs.PrefixLaws.{empty_is_viable}
use Rattle.tinyjson_laws.proofs.prefixes.empty_is_viable.Goals as goal

pub returns : goal.returns
returns c = empty_is_viable
