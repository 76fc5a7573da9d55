use Rattle.tinyjson_document.proofs.Places.{boolean_not, boolean_there}
use Rattle.tinyjson_document.proofs.node.Node.is_bool.Goals as goal

pub returns-in-Boolean : goal.returns-in-Boolean
returns-in-Boolean c = let n = c.args.self.now in boolean_there n.document.now.store n.cell n.known _ c.in-Boolean.is

pub returns-in_default : goal.returns-in_default
returns-in_default c = let n = c.args.self.now in boolean_not n.document.now.store n.cell n.known (λ b. c.in_default.not-Boolean b)
