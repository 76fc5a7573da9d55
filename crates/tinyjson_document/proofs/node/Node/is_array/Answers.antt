use Rattle.tinyjson_document.proofs.Places.{array_not, array_there}
use Rattle.tinyjson_document.proofs.node.Node.is_array.Goals as goal

pub returns-in-Array : goal.returns-in-Array
returns-in-Array c = let n = c.args.self.now in array_there n.document.now.store n.cell n.known _ c.in-Array.is

pub returns-in_default : goal.returns-in_default
returns-in_default c = let n = c.args.self.now in array_not n.document.now.store n.cell n.known (λ p. c.in_default.not-Array p)
