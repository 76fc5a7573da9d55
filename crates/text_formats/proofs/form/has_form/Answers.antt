use Rattle.text_formats.proofs.Forms.{form_other}
use Rattle.text_formats.proofs.form.has_form.Goals as goal

pub returns-then-form-text-clause-value : goal.returns-then-form-text-clause-value
returns-then-form-text-clause-value c = form_other c.args.form.now c.args.text.now c.if-form-text.true
