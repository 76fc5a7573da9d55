use Rattle.std.proofs.Common.{◌≡◌, true, sym, ap, ◌∙◌, ◌++◌, take}
use Rattle.tinyjson_normal.specs.Compacting.{all_placed}
use Rattle.tinyjson_cells.specs.Order.{rise}
use Rattle.tinyjson_cells.proofs.Callers.{rise_lasts, rise_ordered}
use Rattle.tinyjson_normal.proofs.compact.Compact.order.Goals as goal

pub returns-then-rise-clause-text : goal.returns-then-rise-clause-text
returns-then-rise-clause-text c = λ e.
    let a = c.args.self.now in
    let xs = a.store.texts in
    let ms = a.members.items in
    let h : rise xs ms ≡ true = ap (rise xs) (sym c.deref.ensures.value) ∙ sym c.if-rise.ensures in
    (ms, rise_ordered xs ms h, e ∙ ap (λ z. take c.args.inside a.text.items ++ all_placed a.text.items z) (sym (rise_lasts xs ms h)))
