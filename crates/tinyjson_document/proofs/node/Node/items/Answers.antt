use Rattle.std.proofs.Common.{◌≡◌, ◌∙◌, sym, ap, subst}
use Rattle.tinyjson_document.specs.Known.{KnownItems}
use Rattle.tinyjson_cells.specs.Order.{part}
use Rattle.tinyjson_document.proofs.Places.{cells_at, cells_not, items_known, items_left_known}
use Rattle.tinyjson_cells.proofs.Callers.{part_empty}
use Rattle.tinyjson_document.proofs.node.Node.items.Goals as goal
use Rattle.tinyjson_document.proofs.node.Node.items.Goals.{in-Array, in_default}

pub invariant_of-result : goal.invariant_of-result
invariant_of-result c =
    let n = c.args.self.now in
    let s = n.document.now.store in
    let rest : part s.items.items c.match-self.span ≡ cells_at s n.cell = elim c.match-self.branch [
      | in-Array w ↦ ap (part s.items.items) w.span-is ∙ sym (ap (cells_at s) w.in-Array.is)
      | in_default w ↦ part_empty s.items.items c.match-self.span (ap (λ p. p.from) w.span-is ∙ sym (ap (λ p. p.to) w.span-is))
          ∙ sym (cells_not s n.cell (λ p. w.in_default.not-Array p))
    ] in
    record {
      known = subst (KnownItems s) (sym (c.part.ensures ∙ ap (λ z. part z c.match-self.span) c.deref.ensures.value ∙ rest))
          (items_known s n.cell n.known);
    }

pub returns : goal.returns
returns c =
    let n = c.args.self.now in
    let s = n.document.now.store in
    let rest : part s.items.items c.match-self.span ≡ cells_at s n.cell = elim c.match-self.branch [
      | in-Array w ↦ ap (part s.items.items) w.span-is ∙ sym (ap (cells_at s) w.in-Array.is)
      | in_default w ↦ part_empty s.items.items c.match-self.span (ap (λ p. p.from) w.span-is ∙ sym (ap (λ p. p.to) w.span-is))
          ∙ sym (cells_not s n.cell (λ p. w.in_default.not-Array p))
    ] in
    items_left_known s n.cell n.known _ (c.part.ensures ∙ ap (λ z. part z c.match-self.span) c.deref.ensures.value ∙ rest)
    c.result-1.given.0
