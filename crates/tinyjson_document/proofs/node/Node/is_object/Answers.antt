use Rattle.tinyjson_document.proofs.Places.{object_not, object_there}
use Rattle.tinyjson_document.proofs.node.Node.is_object.Goals as goal

pub returns-in-Object : goal.returns-in-Object
returns-in-Object c = let n = c.args.self.now in object_there n.document.now.store n.cell n.known _ c.in-Object.is

pub returns-in_default : goal.returns-in_default
returns-in_default c = let n = c.args.self.now in object_not n.document.now.store n.cell n.known (λ p. c.in_default.not-Object p)
