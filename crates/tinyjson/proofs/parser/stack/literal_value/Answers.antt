use Rattle.tinyjson.proofs.Values.View.{view_Null, view_Boolean}
use Rattle.tinyjson.proofs.parser.stack.literal_value.Goals as goal

pub returns-in-None : goal.returns-in-None
returns-in-None c = rw c.in-None.is view_Null

pub returns-in-Some : goal.returns-in-Some
returns-in-Some c = rw c.in-Some.is (view_Boolean c.in-Some.boolean)
