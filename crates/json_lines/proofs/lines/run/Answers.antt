use Rattle.std.proofs.Common.{◌≡◌, [], true, false, Ok, subst}
use Rattle.std.proofs.KnownBytes.{Keeps-refl}
use Rattle.tinyjson_lines.specs.Lines.{AllRead}
use Rattle.json_lines.specs.Run.{ReadsNext}
use Rattle.json_lines.proofs.Given.{given_next}
use Rattle.json_lines.proofs.Reading.{begun, stopped, ended, refused, next, next_refused, failed, at_error}
use Rattle.json_lines.proofs.lines.run.Goals as goal

pub loop-number-init : goal.loop-number-init
loop-number-init g c = record { progress = begun c.args.options _ _ _ }

pub returns-in_err-read : goal.returns-in_err-read
returns-in_err-read g c =
    at_error _ _ _ _ _ _ _ c.from_residual.result c.from_residual.ensures.0
    (stopped c.args.options _ _ _ _ _ _ c.loop-number.number c.loop-number.outcome c.loop-number.invariant.progress _ _ (Keeps-refl _)
    (Keeps-refl _))

pub returns-in_err-flush : goal.returns-in_err-flush
returns-in_err-flush g c =
    at_error _ _ _ _ _ _ _ c.from_residual-in_err-flush.result c.from_residual-in_err-flush.ensures.0
    (stopped c.args.options _ _ _ _ _ _ c.loop-number.number c.loop-number.outcome c.loop-number.invariant.progress _ _
    c.flush.ensures.bytes (Keeps-refl _))

pub returns-in-End : goal.returns-in-End
returns-in-End g c =
    let left = g.R.Read.remaining c.loop-number.input in
    let after = g.R.Read.remaining c.read_next.new.input in
    let none : AllRead left after []
    = subst (λ r. ReadsNext c.args.options.limit c.args.options.max_line left after c.read_next.new.line.items (Ok r)) c.in-End.is
    c.in_ok-read.ensures in
    ended c.args.options _ _ _ _ _ _ c.loop-number.number c.loop-number.outcome c.loop-number.invariant.progress _ _ none
    c.flush.ensures.bytes

pub returns-in_err-handled : goal.returns-in_err-handled
returns-in_err-handled g c =
    let left = g.R.Read.remaining c.loop-number.input in
    let after = g.R.Read.remaining c.read_next.new.input in
    let one = given_next c.args.options.limit c.args.options.max_line left after c.in_ok-read.read c.read_next.new.line.items
    c.as_slice.result.now _
    c.in_default.not-End c.as_slice.ensures.value c.given-given.ensures c.in_ok-read.ensures in
    at_error _ _ _ _ _ _ _ c.from_residual-in_err-handled.result c.from_residual-in_err-handled.ensures.0
    (failed c.args.options _ _ _ _ _ _ c.loop-number.number c.loop-number.outcome c.loop-number.invariant.progress _ _ _
    one.0 one.1
    c.in_err-handled.field-0.0 (c.in_err-handled.ensures one.0 one.2))

pub loop-number-preserved-in_default-handled : goal.loop-number-preserved-in_default-handled
loop-number-preserved-in_default-handled g c =
    let left = g.R.Read.remaining c.loop-number.input in
    let after = g.R.Read.remaining c.read_next.new.input in
    let one = given_next c.args.options.limit c.args.options.max_line left after c.in_ok-read.read c.read_next.new.line.items
    c.as_slice.result.now _
    c.in_default.not-End c.as_slice.ensures.value c.given-given.ensures c.in_ok-read.ensures in
    record {
      progress = next c.args.options _ _ _ _ _ _ c.loop-number.number c.loop-number.outcome c.loop-number.invariant.progress _ _ _
          one.0 one.1
          c.in_ok-handled.handled c.in_default-handled.is (c.in_ok-handled.ensures one.0 one.2);
    }

pub returns-then-not-options : goal.returns-then-not-options
returns-then-not-options g c =
    let left = g.R.Read.remaining c.loop-number.input in
    let after = g.R.Read.remaining c.read_next.new.input in
    let one = given_next c.args.options.limit c.args.options.max_line left after c.in_ok-read.read c.read_next.new.line.items
    c.as_slice.result.now _
    c.in_default.not-End c.as_slice.ensures.value c.given-given.ensures c.in_ok-read.ensures in
    let off : c.args.options.goes_on ≡ false = let t = c.if-not-options.true in cc in
    refused c.args.options _ _ _ _ _ _ c.loop-number.number c.loop-number.outcome c.loop-number.invariant.progress _ _ _
    one.0 one.1
    off c.in_ok-handled.handled c.in-SomeRefused.is (c.in_ok-handled.ensures one.0 one.2)

pub loop-number-preserved : goal.loop-number-preserved
loop-number-preserved g c =
    let left = g.R.Read.remaining c.loop-number.input in
    let after = g.R.Read.remaining c.read_next.new.input in
    let one = given_next c.args.options.limit c.args.options.max_line left after c.in_ok-read.read c.read_next.new.line.items
    c.as_slice.result.now _
    c.in_default.not-End c.as_slice.ensures.value c.given-given.ensures c.in_ok-read.ensures in
    let on : c.args.options.goes_on ≡ true = let t = c.if-not-options.false in cc in
    record {
      progress = next_refused c.args.options _ _ _ _ _ _ c.loop-number.number c.loop-number.outcome c.loop-number.invariant.progress _ _ _
          one.0 one.1
          on c.in_ok-handled.handled c.in-SomeRefused.is (c.in_ok-handled.ensures one.0 one.2);
    }

pub returns : goal.returns
returns g c = stopped c.args.options _ _ _ _ _ _ c.loop-number.number c.loop-number.outcome c.loop-number.invariant.progress _ _
    (Keeps-refl _) (Keeps-refl _)
