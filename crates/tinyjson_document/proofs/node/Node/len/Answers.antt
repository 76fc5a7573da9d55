use Rattle.std.proofs.Common.{◌∙◌, length, sym, ap}
use Rattle.tinyjson_cells.specs.Order.{part}
use Rattle.tinyjson_document.proofs.Places.{size_at, size_known, size_not}
use Rattle.tinyjson_document.proofs.node.Node.len.Goals as goal

pub returns-in-Array : goal.returns-in-Array
returns-in-Array c =
    let n = c.args.self.now in
    let s = n.document.now.store in
    ap length (c.part.ensures ∙ ap (λ z. part z c.in-Array.span) c.deref.ensures.value) ∙ ap (size_at s) (sym c.in-Array.is)
    ∙ size_known s n.cell n.known

pub returns-in-Object : goal.returns-in-Object
returns-in-Object c =
    let n = c.args.self.now in
    let s = n.document.now.store in
    ap length (c.part-in-Object.ensures ∙ ap (λ z. part z c.in-Object.span) c.deref-in-Object.ensures.value)
    ∙ ap (size_at s) (sym c.in-Object.is) ∙ size_known s n.cell n.known

pub returns-in_default : goal.returns-in_default
returns-in_default c =
    let n = c.args.self.now in
    let s = n.document.now.store in
    sym (size_not s n.cell (λ p. c.in_default.not-Array p) (λ p. c.in_default.not-Object p)) ∙ size_known s n.cell n.known
