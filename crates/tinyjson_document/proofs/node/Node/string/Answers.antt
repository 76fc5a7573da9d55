use Rattle.std.proofs.Common.{◌∙◌, Some, sym, ap, subst}
use Rattle.tinyjson_document.specs.Known.{Known}
use Rattle.tinyjson_document.proofs.Places.{string_at, string_known, string_bytes_known, string_not}
use Rattle.tinyjson_document.proofs.node.Node.string.Goals as goal

pub returns-in-String : goal.returns-in-String
returns-in-String c =
    let n = c.args.self.now in
    let s = n.document.now.store in
    let h = string_bytes_known s c.in-String.span (subst (Known s) c.in-String.is n.known) in
    c.text_at.ensures h.0 h.1
    ∙ ap Some h.1.1 ∙ ap (string_at s) (sym c.in-String.is) ∙ string_known s n.cell n.known

pub returns-in_default : goal.returns-in_default
returns-in_default c =
    let n = c.args.self.now in
    let s = n.document.now.store in
    sym (string_not s n.cell (λ p. c.in_default.not-String p)) ∙ string_known s n.cell n.known
