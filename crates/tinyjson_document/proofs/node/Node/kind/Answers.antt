use Rattle.std.proofs.Common.{◌∙◌, sym, ap}
use Rattle.tinyjson_document.specs.Known.{kind_in}
use Rattle.tinyjson_document.proofs.Places.{kind_known}
use Rattle.tinyjson_document.proofs.node.Node.kind.Goals as goal

pub returns-in-String : goal.returns-in-String
returns-in-String c =
    let n = c.args.self.now in
    ap kind_in (sym c.in-String.is) ∙ kind_known n.document.now.store n.cell n.known

pub returns-in-Array : goal.returns-in-Array
returns-in-Array c =
    let n = c.args.self.now in
    ap kind_in (sym c.in-Array.is) ∙ kind_known n.document.now.store n.cell n.known

pub returns-in-Object : goal.returns-in-Object
returns-in-Object c =
    let n = c.args.self.now in
    ap kind_in (sym c.in-Object.is) ∙ kind_known n.document.now.store n.cell n.known

pub returns-in-Null : goal.returns-in-Null
returns-in-Null c =
    let n = c.args.self.now in
    ap kind_in (sym c.in-Null.is) ∙ kind_known n.document.now.store n.cell n.known

pub returns-in-Boolean : goal.returns-in-Boolean
returns-in-Boolean c =
    let n = c.args.self.now in
    ap kind_in (sym c.in-Boolean.is) ∙ kind_known n.document.now.store n.cell n.known
