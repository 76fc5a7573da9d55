use Rattle.std.proofs.Common.{sym, ◌∙◌, subst}
use Rattle.std.specs.Io.KnownBytes.{Consumes}
use Rattle.std.specs.Str.{IsUtf8}
use Rattle.jsonnorm.proofs.Running.{refused, wrote, stopped}
use Rattle.jsonnorm.proofs.run.normalize.Goals as goal

pub returns-in-Err : goal.returns-in-Err
returns-in-Err g c =
    let r = c.in_ok-bytes.ensures in
    let u = c.in-Ok.ensures.cases in
    let same = u.0 ∙ c.as_slice.ensures.value ∙ r.answer.0 in
    let taken = subst (Consumes (g.R.Read.remaining c.args.input.now) (g.R.Read.remaining c.read_all.new.input)) (sym same) r.taken in
    refused c.args.options.limit c.args.options.indented _ _ _ c.in-Ok.text.now taken r.answer.1 (subst IsUtf8 (sym u.0) u.1)
    c.in-Err.error c.refusal.result c.in-Err.ensures c.refusal.ensures

pub returns-in-Ok-written : goal.returns-in-Ok-written
returns-in-Ok-written g c =
    let r = c.in_ok-bytes.ensures in
    let u = c.in-Ok.ensures.cases in
    let same = u.0 ∙ c.as_slice.ensures.value ∙ r.answer.0 in
    let taken = subst (Consumes (g.R.Read.remaining c.args.input.now) (g.R.Read.remaining c.read_all.new.input)) (sym same) r.taken in
    wrote c.args.options.limit c.args.options.indented _ _ _ c.in-Ok.text.now taken r.answer.1 (subst IsUtf8 (sym u.0) u.1)
    c.in-Ok-parsed.parsed _ c.in-Ok-parsed.ensures (c.in-Ok-written.ensures c.args.options.indented)

pub returns-in-Err-written : goal.returns-in-Err-written
returns-in-Err-written g c =
    let r = c.in_ok-bytes.ensures in
    let u = c.in-Ok.ensures.cases in
    let same = u.0 ∙ c.as_slice.ensures.value ∙ r.answer.0 in
    let taken = subst (Consumes (g.R.Read.remaining c.args.input.now) (g.R.Read.remaining c.read_all.new.input)) (sym same) r.taken in
    stopped c.args.options.limit c.args.options.indented _ _ _ c.in-Ok.text.now taken r.answer.1 (subst IsUtf8 (sym u.0) u.1)
    c.in-Ok-parsed.parsed _ c.writing_error.result c.in-Ok-parsed.ensures
    (c.in-Err-written.ensures c.args.options.indented) c.writing_error.ensures
