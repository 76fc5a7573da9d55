use Rattle.tinyjson_laws.proofs.WhiteSpaceLaws.{white_changes_nothing}
use Rattle.tinyjson_laws.proofs.white_space.white_changes_nothing.Goals as goal

pub returns : goal.returns
returns c = white_changes_nothing
