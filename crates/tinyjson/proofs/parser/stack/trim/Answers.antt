use Rattle.tinyjson.proofs.Values.View.{members_view_same}
use Rattle.tinyjson.proofs.parser.stack.trim.Goals as goal

pub returns-then-capacity-len : goal.returns-then-capacity-len
returns-then-capacity-len c = members_view_same _ _ c.shrink_to_fit.ensures.entries.2
