use Rattle.std.proofs.Common.{[]}
use Rattle.tinyjson_tokens.proofs.Cursors.{Goes_nil}
use Rattle.tinyjson_tokens.proofs.cursor.Characters.take_white.Goals as goal

pub returns-then-self-clause-white : goal.returns-then-self-clause-white
returns-then-self-clause-white g c =
    let p = c.args.self.now in
    record { taken = []; pass = tt; goes = Goes_nil g.I.Iterator.next_gives p.cursor p.line_fits p.column_fits }

pub draw_white-requires-clause-place : goal.draw_white-requires-clause-place
draw_white-requires-clause-place g c = let p = c.args.self.now in (p.line_fits, p.column_fits)

pub invariant_of-self-clause-ready : goal.invariant_of-self-clause-ready
invariant_of-self-clause-ready g c = ∣ c.draw_white.ensures.ready ∣₁

pub invariant_of-self-clause-line_fits : goal.invariant_of-self-clause-line_fits
invariant_of-self-clause-line_fits g c = c.draw_white.ensures.place.0

pub invariant_of-self-clause-column_fits : goal.invariant_of-self-clause-column_fits
invariant_of-self-clause-column_fits g c = c.draw_white.ensures.place.1
