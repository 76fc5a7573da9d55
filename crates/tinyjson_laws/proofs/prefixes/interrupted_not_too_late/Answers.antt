use Rattle.tinyjson_laws.proofs.PrefixLaws.{interrupted_not_too_late}
use Rattle.tinyjson_laws.proofs.prefixes.interrupted_not_too_late.Goals as goal

pub returns : goal.returns
returns c = interrupted_not_too_late
