use Rattle.std.proofs.Common.{◌∙◌, sym}
use Rattle.tinyjson_document.proofs.Places.{no_number_cell, number_tested}
use Rattle.tinyjson_document.proofs.node.Node.is_number.Goals as goal

pub returns-in_default : goal.returns-in_default
returns-in_default c =
    let n = c.args.self.now in
    sym (no_number_cell n.document.now.store n.cell (λ p. c.in_default.not-Short p) (λ i. c.in_default.not-Kept i))
    ∙ number_tested n.document.now.store n.cell n.known
