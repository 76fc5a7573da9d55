use Rattle.std.proofs.Common.{◌∙◌, sym, arith}
use Rattle.text_formats.proofs.Forms.{form_turn, form_off, form_end}
use Rattle.text_formats.proofs.form.all_fit.Goals as goal

pub loop-i-preserved : goal.loop-i-preserved
loop-i-preserved c = c.loop-i.invariant ∙ form_turn c.args.form.now c.args.text.now c.loop-i.i c.loop-i-test.true (omega arith)
    (sym c.fits.ensures ∙ c.if-not-fits.false)

pub returns : goal.returns
returns c = sym (c.loop-i.invariant ∙ form_end c.args.form.now c.args.text.now c.loop-i.i c.loop-i-test.false (omega arith))

pub returns-then-not-fits : goal.returns-then-not-fits
returns-then-not-fits c = sym (c.loop-i.invariant ∙ form_off c.args.form.now c.args.text.now c.loop-i.i c.loop-i-test.true (omega arith)
    (sym c.fits.ensures ∙ c.if-not-fits.true))
