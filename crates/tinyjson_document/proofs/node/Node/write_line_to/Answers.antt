use Rattle.tinyjson_document.proofs.node.Node.write_line_to.Goals as goal

pub returns : goal.returns
returns g c = c.write.ensures
