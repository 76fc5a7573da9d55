use Rattle.tinyjson_document.specs.Known.{known_one}
use Rattle.tinyjson_document.proofs.document.Document.root.Goals as goal

pub returns : goal.returns
returns c = let d = c.args.self.now in known_one d.store d.root c.result-2-1.given.0 d.known
