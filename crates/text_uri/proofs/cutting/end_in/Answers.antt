use Rattle.std.proofs.Common.{◌∙◌, sym}
use Rattle.text_uri.proofs.Cuts.{wide_turn, wide_here, wide_end}
use Rattle.text_uri.proofs.cutting.end_in.Goals as goal

pub loop-i-preserved : goal.loop-i-preserved
loop-i-preserved g c = wide_turn (g.E.Ends.ends c.args.end) c.args.bytes.now c.loop-i.i c.loop-i-test.true (sym c.ends.ensures ∙ c.if-ends.false)
    c.loop-i.invariant

pub returns : goal.returns
returns g c = wide_end (g.E.Ends.ends c.args.end) c.args.bytes.now c.loop-i.i c.loop-i-test.false c.loop-i.invariant

pub returns-then-ends : goal.returns-then-ends
returns-then-ends g c = wide_here (g.E.Ends.ends c.args.end) c.args.bytes.now c.loop-i.i c.loop-i-test.true (sym c.ends.ensures ∙ c.if-ends.true)
    c.loop-i.invariant
