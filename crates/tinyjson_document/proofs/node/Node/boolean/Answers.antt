use Rattle.std.proofs.Common.{◌∙◌, sym, ap}
use Rattle.tinyjson_document.proofs.Places.{boolean_at, boolean_known, boolean_none}
use Rattle.tinyjson_document.proofs.node.Node.boolean.Goals as goal

pub returns-in-Boolean : goal.returns-in-Boolean
returns-in-Boolean c =
    let n = c.args.self.now in
    ap boolean_at (sym c.in-Boolean.is) ∙ boolean_known n.document.now.store n.cell n.known

pub returns-in_default : goal.returns-in_default
returns-in_default c = let n = c.args.self.now in boolean_none n.document.now.store n.cell n.known (λ b. c.in_default.not-Boolean b)
