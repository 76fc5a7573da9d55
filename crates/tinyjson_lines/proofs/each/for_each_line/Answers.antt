use Rattle.std.proofs.Common.{[], Ok, subst}
use Rattle.std.proofs.KnownBytes.{Keeps-refl}
use Rattle.tinyjson_lines.proofs.Steps.{at_error, begun, ended, failed, given_read, last, next, none_left, stopped}
use Rattle.tinyjson_lines.specs.Lines.{AllRead}
use Rattle.tinyjson_lines.specs.Within.{ReadsWithin}
use Rattle.tinyjson_lines.proofs.each.for_each_line.Goals as goal

pub loop-number-init : goal.loop-number-init
loop-number-init g c = record { progress = begun g.H.LineHandler.handles c.args.max _ _ _ _ }

pub returns-in_err-read : goal.returns-in_err-read
returns-in_err-read g c =
    at_error g.H.LineHandler.handles c.args.max _ _ _ _ _ _ _ _ c.from_residual.result c.from_residual.ensures.0
    (stopped g.H.LineHandler.handles c.args.max _ _ _ _ _ _ _ _ c.loop-number.number c.loop-number.invariant.progress _ _ (Keeps-refl _)
    (Keeps-refl _))

pub returns-in_err-flush : goal.returns-in_err-flush
returns-in_err-flush g c =
    at_error g.H.LineHandler.handles c.args.max _ _ _ _ _ _ _ _ c.from_residual-in_err-flush.result
    c.from_residual-in_err-flush.ensures.0
    (stopped g.H.LineHandler.handles c.args.max _ _ _ _ _ _ _ _ c.loop-number.number c.loop-number.invariant.progress _ _
    c.flush.ensures.bytes (Keeps-refl _))

pub returns-in-End : goal.returns-in-End
returns-in-End g c =
    let left = g.R.Read.remaining c.loop-number.input in
    let after = g.R.Read.remaining c.read_line_within.new.input in
    let none : AllRead left after []
    = subst (λ r. ReadsWithin c.args.max left after c.read_line_within.new.line.items (Ok r)) c.in-End.is c.in_ok-read.ensures.reads in
    ended g.H.LineHandler.handles c.args.max _ _ _ _ _ _ _ _ c.loop-number.number c.loop-number.invariant.progress _ _
    (none_left c.args.max left after none) c.flush.ensures.bytes

pub returns-in_err-handle_line : goal.returns-in_err-handle_line
returns-in_err-handle_line g c =
    let given = given_read c.args.max (g.R.Read.remaining c.loop-number.input) (g.R.Read.remaining c.read_line_within.new.input)
    c.in_ok-read.read c.read_line_within.new.line.items c.as_slice.result.now _ c.in_default.not-End c.as_slice.ensures.value
    c.given_line-given.ensures c.in_ok-read.ensures.reads in
    at_error g.H.LineHandler.handles c.args.max _ _ _ _ _ _ _ _ c.from_residual-in_err-handle_line.result
    c.from_residual-in_err-handle_line.ensures.0
    (failed g.H.LineHandler.handles c.args.max _ _ _ _ _ _ _ _ c.loop-number.number c.loop-number.invariant.progress _ _ given
    c.handle_line.new.self _ _
    c.in_err-handle_line.field-0.0 c.in_err-handle_line.ensures)

pub returns-then-not-branch : goal.returns-then-not-branch
returns-then-not-branch g c =
    let given = given_read c.args.max (g.R.Read.remaining c.loop-number.input) (g.R.Read.remaining c.read_line_within.new.input)
    c.in_ok-read.read c.read_line_within.new.line.items c.as_slice.result.now _ c.in_default.not-End c.as_slice.ensures.value
    c.given_line-given.ensures c.in_ok-read.ensures.reads in
    let handled = rw c.if-not-branch.true at c.in_ok-handle_line.ensures in
    last g.H.LineHandler.handles c.args.max _ _ _ _ _ _ _ _ c.loop-number.number c.loop-number.invariant.progress _ _ given _ _ _ handled

pub loop-number-preserved : goal.loop-number-preserved
loop-number-preserved g c =
    let given = given_read c.args.max (g.R.Read.remaining c.loop-number.input) (g.R.Read.remaining c.read_line_within.new.input)
    c.in_ok-read.read c.read_line_within.new.line.items c.as_slice.result.now _ c.in_default.not-End c.as_slice.ensures.value
    c.given_line-given.ensures c.in_ok-read.ensures.reads in
    let handled = rw c.if-not-branch.false at c.in_ok-handle_line.ensures in
    record {
      progress = next g.H.LineHandler.handles c.args.max _ _ _ _ _ _ _ _ c.loop-number.number c.loop-number.invariant.progress _ _ given
          _ _ _ handled;
    }

pub returns : goal.returns
returns g c =
    stopped g.H.LineHandler.handles c.args.max _ _ _ _ _ _ _ _ c.loop-number.number c.loop-number.invariant.progress _ _ (Keeps-refl _)
    (Keeps-refl _)
