use Rattle.tinyjson_document.specs.Document.{tree}
use Rattle.tinyjson_document.proofs.Places.{known_had}
use Rattle.tinyjson_document.proofs.node.Node.write.Goals as goal

pub returns : goal.returns
returns g c =
    let n = c.args.self.now in
    c.write_to.ensures (tree n) (known_had n.document.now.store n.cell n.known)
