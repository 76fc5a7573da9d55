use Rattle.std.proofs.Common.{option_map}
use Rattle.std.specs.Str.{chars}
use Rattle.json_format.proofs.Formatting.{form_begun, form_written}
use Rattle.json_format.proofs.form.Formatter.answer_form.Goals as goal

pub returns-then-self : goal.returns-then-self
returns-then-self g c = c.check_form.ensures c.if-self.true

pub returns-in_err-write_all : goal.returns-in_err-write_all
returns-in_err-write_all g c = λ is.
    form_begun c.args.self.now (option_map (λ f. f.now) c.args.file) (chars c.args.text.now) c.args.form.now is _ _ c.if-self.false
    c.from_residual.result c.from_residual.ensures.0 c.in_err-write_all.ensures

pub returns : goal.returns
returns g c = λ is.
    form_written c.args.self.now (option_map (λ f. f.now) c.args.file) (chars c.args.text.now) c.args.form.now is _ _ c.if-self.false
    c.in_ok-write_all.ensures
