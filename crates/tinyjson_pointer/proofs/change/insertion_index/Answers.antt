use Rattle.std.proofs.Common.{arith, sym, ◌∙◌}
use Rattle.tinyjson_pointer.proofs.Children.{dash_place, no_place}
use Rattle.tinyjson_pointer.proofs.change.insertion_index.Goals as goal

pub returns-then-eq : goal.returns-then-eq
returns-then-eq c = (dash_place c.args.token.now c.args.count (sym c.eq.ensures ∙ c.if-eq.true), omega arith)

pub returns-in_err-at : goal.returns-in_err-at
returns-in_err-at c = no_place c.args.token.now c.args.count c.from_residual.result c.from_residual.ensures c.utf8.token
    (sym c.eq.ensures ∙ c.if-eq.false) (omega (arith, c.ranges.count.fits)) c.in_err-at.ensures
