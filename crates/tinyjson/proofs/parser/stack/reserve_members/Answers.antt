use Rattle.tinyjson.proofs.Values.View.{members_view_same}
use Rattle.tinyjson.proofs.parser.stack.reserve_members.Goals as goal

pub returns-else-is_empty : goal.returns-else-is_empty
returns-else-is_empty c = members_view_same _ _ c.reserve.ensures.entries.2
