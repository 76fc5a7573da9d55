use Rattle.std.proofs.Common.{◌≡◌, true, sym, ap, subst, ◌∙◌, IfOk}
use Rattle.tinyjson_cells.specs.Cell.{IsRun}
use Rattle.tinyjson_cells.specs.Order.{rise}
use Rattle.tinyjson_cells.proofs.Rising.{rise_adds}
use Rattle.tinyjson_cells.proofs.store.Store.add_object.Goals as goal

pub returns-then-rise-clause-members : goal.returns-then-rise-clause-members
returns-then-rise-clause-members c =
    let texts = c.args.self.now.texts in
    let ms = c.args.members.now.items in
    let all = c.add_members.new.self.members.items in
    let they : rise texts ms ≡ true = sym (c.rise.ensures ∙ ap (rise texts) c.deref.ensures.value) ∙ c.if-rise.true in
    rise_adds texts all ms c.add_members.result they (subst (λ z. IfOk c.add_members.result (λ p. IsRun all p z))
    c.deref-then-rise.ensures.value c.add_members.ensures.members)
