use Rattle.tinyjson_laws.proofs.WhiteSpaceLaws.{same_but_white}
use Rattle.tinyjson_laws.proofs.white_space.same_but_white.Goals as goal

pub returns : goal.returns
returns c = same_but_white
