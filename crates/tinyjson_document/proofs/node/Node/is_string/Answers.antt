use Rattle.std.proofs.Common.{◌∙◌, sym, ap}
use Rattle.tinyjson_document.proofs.Places.{is_string_cell, no_string_cell, string_tested}
use Rattle.tinyjson_document.proofs.node.Node.is_string.Goals as goal

pub returns-in-String : goal.returns-in-String
returns-in-String c =
    let n = c.args.self.now in
    ap is_string_cell (sym c.in-String.is) ∙ string_tested n.document.now.store n.cell n.known

pub returns-in_default : goal.returns-in_default
returns-in_default c =
    let n = c.args.self.now in
    sym (no_string_cell n.document.now.store n.cell (λ p. c.in_default.not-String p)) ∙ string_tested n.document.now.store n.cell n.known
