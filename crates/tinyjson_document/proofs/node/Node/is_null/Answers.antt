use Rattle.tinyjson_document.proofs.Places.{null_not, null_there}
use Rattle.tinyjson_document.proofs.node.Node.is_null.Goals as goal

pub returns-in-Null : goal.returns-in-Null
returns-in-Null c = let n = c.args.self.now in null_there n.document.now.store n.cell n.known c.in-Null.is

pub returns-in_default : goal.returns-in_default
returns-in_default c = let n = c.args.self.now in null_not n.document.now.store n.cell n.known (λ e. c.in_default.not-Null e)
