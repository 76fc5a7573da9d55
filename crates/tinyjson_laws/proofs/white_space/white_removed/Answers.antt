use Rattle.tinyjson_laws.proofs.WhiteSpaceLaws.{white_removed}
use Rattle.tinyjson_laws.proofs.white_space.white_removed.Goals as goal

pub returns : goal.returns
returns c = white_removed
