use Rattle.std.proofs.Common.{◌∙◌, option_map, sym}
use Rattle.std.proofs.lemmas.Bool.{false≢true}
use Rattle.std.specs.Str.{chars}
use Rattle.json_format.proofs.Formatting.{in_form, name_begun, name_written}
use Rattle.json_format.proofs.form.Formatter.check_form.Goals as goal

pub returns-then-has_bytes : goal.returns-then-has_bytes
returns-then-has_bytes g c = λ checks is.
    let old = g.W.Write.contents c.args.output.now in
    in_form c.args.self.now (option_map (λ f. f.now) c.args.file) (chars c.args.text.now) c.args.form.now is old old checks
    (c.has_bytes.ensures.0 c.if-has_bytes.true)

pub returns-in_err-write_all : goal.returns-in_err-write_all
returns-in_err-write_all g c = λ checks is.
    name_begun c.args.self.now (option_map (λ f. f.now) c.args.file) (chars c.args.text.now) c.args.form.now is _ _ checks
    (λ e. false≢true (sym c.if-has_bytes.false ∙ c.has_bytes.ensures.1 e)) _ (c.as_bytes.ensures.value ∙ c.in_ok-name.ensures)
    c.from_residual-in_err-write_all.result c.from_residual-in_err-write_all.ensures.0 c.in_err-write_all.ensures

pub returns : goal.returns
returns g c = λ checks is.
    name_written c.args.self.now (option_map (λ f. f.now) c.args.file) (chars c.args.text.now) c.args.form.now is _ _ checks
    (λ e. false≢true (sym c.if-has_bytes.false ∙ c.has_bytes.ensures.1 e)) _ (c.as_bytes.ensures.value ∙ c.in_ok-name.ensures)
    c.in_ok-write_all.ensures
