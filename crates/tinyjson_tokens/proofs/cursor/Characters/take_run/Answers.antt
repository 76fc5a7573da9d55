use Rattle.std.proofs.Common.{[], sym, append-nil}
use Rattle.tinyjson_grammar.specs.Characters.{text}
use Rattle.tinyjson_tokens.proofs.Cursors.{Goes_nil, none_shown}
use Rattle.tinyjson_tokens.proofs.cursor.Characters.take_run.Goals as goal

pub returns-then-self-clause-run : goal.returns-then-self-clause-run
returns-then-self-clause-run g c =
    let p = c.args.self.now in
    record {
      skips = record { taken = []; pass = tt; goes = Goes_nil g.I.Iterator.next_gives p.cursor p.line_fits p.column_fits };
      added = sym (append-nil (text c.args.string.now));
    }

pub invariant_of-self-clause-ready : goal.invariant_of-self-clause-ready
invariant_of-self-clause-ready g c = ∣ c.draw_run.ensures.ready ∣₁

pub invariant_of-self-clause-line_fits : goal.invariant_of-self-clause-line_fits
invariant_of-self-clause-line_fits g c = c.draw_run.ensures.place.0

pub invariant_of-self-clause-column_fits : goal.invariant_of-self-clause-column_fits
invariant_of-self-clause-column_fits g c = c.draw_run.ensures.place.1

pub draw_run-requires-clause-place : goal.draw_run-requires-clause-place
draw_run-requires-clause-place g c = let p = c.args.self.now in (p.line_fits, p.column_fits)

pub returns-clause-still : goal.returns-clause-still
returns-clause-still g c = λ o s. absurd (none_shown c.args.self.now.cursor o c.requires.none c.if-self.false s)
