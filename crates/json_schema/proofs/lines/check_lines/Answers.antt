use Rattle.std.proofs.Common.{[], Ok, subst}
use Rattle.std.proofs.KnownBytes.{Keeps-refl}
use Rattle.tinyjson_lines.proofs.Callers as run
use Rattle.tinyjson_lines.proofs.Callers.{given_next}
use Rattle.tinyjson_lines.specs.Lines.{AllRead}
use Rattle.tinyjson_lines.specs.Within.{ReadsWithin}
use Rattle.json_schema.specs.Run.{Gives, output_of, telling_of}
use Rattle.json_schema.proofs.Running.{begun, stopped, ended, next, failed}
use Rattle.json_schema.proofs.lines.check_lines.Goals as goal

pub loop-number-init : goal.loop-number-init
loop-number-init g c = record { progress = begun c.args.check _ _ _ }

pub returns-in_err-read : goal.returns-in_err-read
returns-in_err-read g c =
    stopped c.args.check _ _ _ _ _ _ c.loop-number.number c.loop-number.outcome c.loop-number.invariant.progress
    _ _ _ c.from_residual.result c.from_residual.ensures.0 (Keeps-refl _) (Keeps-refl _)

pub returns-in_err-flush : goal.returns-in_err-flush
returns-in_err-flush g c =
    stopped c.args.check _ _ _ _ _ _ c.loop-number.number c.loop-number.outcome c.loop-number.invariant.progress
    _ _ _ c.from_residual-in_err-flush.result c.from_residual-in_err-flush.ensures.0 c.flush.ensures.bytes (Keeps-refl _)

pub returns-in-End : goal.returns-in-End
returns-in-End g c =
    let left = g.R.Read.remaining c.loop-number.input in
    let after = g.R.Read.remaining c.read_line_within.new.input in
    let none : AllRead left after []
    = subst (λ r. ReadsWithin c.args.check.max_line left after c.read_line_within.new.line.items (Ok r)) c.in-End.is
    c.in_ok-read.ensures.reads in
    ended c.args.check _ _ _ _ _ _ c.loop-number.number c.loop-number.outcome c.loop-number.invariant.progress
    _ _ none c.flush.ensures.bytes

pub returns-in_err-of_line : goal.returns-in_err-of_line
returns-in_err-of_line g c =
    let left = g.R.Read.remaining c.loop-number.input in
    let after = g.R.Read.remaining c.read_line_within.new.input in
    let one = given_next c.args.check.max_line left after c.in_ok-read.read c.read_line_within.new.line.items c.as_slice.result.now _
    c.in_default.not-End c.as_slice.ensures.value c.given-given.ensures c.in_ok-read.ensures.reads in
    failed c.args.check _ _ _ _ _ _ c.loop-number.number c.loop-number.outcome c.loop-number.invariant.progress
    _ _ _ one.0 one.1
    c.from_residual-in_err-of_line.result c.from_residual-in_err-of_line.ensures.0
    c.in_err-of_line.field-0.0 (c.in_err-of_line.ensures one.0 one.2)

pub loop-number-preserved : goal.loop-number-preserved
loop-number-preserved g c =
    let left = g.R.Read.remaining c.loop-number.input in
    let after = g.R.Read.remaining c.read_line_within.new.input in
    let one = given_next c.args.check.max_line left after c.in_ok-read.read c.read_line_within.new.line.items c.as_slice.result.now _
    c.in_default.not-End c.as_slice.ensures.value c.given-given.ensures c.in_ok-read.ensures.reads in
    record {
      progress = next c.args.check _ _ _ _ _ _ c.loop-number.number c.loop-number.outcome c.loop-number.invariant.progress
          _ _ _ one.0 one.1
          c.in_ok-of_line.of_line c.and-outcome.result c.and-outcome.ensures (c.in_ok-of_line.ensures one.0 one.2);
    }

pub returns : goal.returns
returns g c =
    let p = c.loop-number.invariant.progress in
    run.stopped (Gives c.args.check) (output_of c.args.check) (telling_of c.args.check) _ _ _ _ _ _ c.loop-number.number
    p.verdicts p.progress _ _ (Keeps-refl _) (Keeps-refl _)
