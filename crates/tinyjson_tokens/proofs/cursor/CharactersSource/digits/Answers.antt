use Rattle.tinyjson_tokens.proofs.Slices.{OnOk_digits, OnOk_fewer}
use Rattle.tinyjson_tokens.proofs.cursor.CharactersSource.digits.Goals as goal

pub returns-clause-digits : goal.returns-clause-digits
returns-clause-digits g c =
    let r = c.run.ensures.run in
    let t = r.skips in
    record {
      taken = t.taken;
      pass = t.pass;
      takes = record { gives = t.goes.gives; moves = t.goes.moves };
      added = OnOk_digits c.args.buffer.now c.run.new.string t.taken t.pass c.run.result r.added;
    }

pub returns-clause-left : goal.returns-clause-left
returns-clause-left g c =
    let r = c.run.ensures.run in
    OnOk_fewer c.args.buffer.now c.run.new.string r.skips.taken r.skips.pass c.run.result _ _ r.added c.run.ensures.fewer
