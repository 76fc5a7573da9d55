use Rattle.tinyjson_laws.proofs.PrefixLaws.{refused_not_too_late}
use Rattle.tinyjson_laws.proofs.prefixes.refused_not_too_late.Goals as goal

pub returns : goal.returns
returns c = refused_not_too_late
