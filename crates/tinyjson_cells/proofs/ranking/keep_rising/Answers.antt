use Rattle.std.proofs.Common.{sym, ◌∙◌, ap, arith}
use Rattle.tinyjson_cells.specs.Order.{rise}
use Rattle.tinyjson_cells.proofs.Picked.{picked_ordered}
use Rattle.tinyjson_cells.proofs.ranking.keep_rising.Goals as goal

pub returns-then-len-members : goal.returns-then-len-members
returns-then-len-members c = λ h.
    let xs = c.args.texts.now in
    picked_ordered xs c.args.members.now c.pick.new.kept.items c.in_ok-pick.ensures
    (omega (arith, c.len.ensures, c.pick.new.kept.ok.0, c.if-len-members.true))
    (ap (rise xs) (sym c.deref.ensures.value) ∙ sym c.rise.ensures ∙ h)
