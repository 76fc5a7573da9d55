use Rattle.tinyjson_laws.proofs.PrefixLaws.{refused_not_too_soon}
use Rattle.tinyjson_laws.proofs.prefixes.refused_not_too_soon.Goals as goal

pub returns : goal.returns
returns c = refused_not_too_soon
