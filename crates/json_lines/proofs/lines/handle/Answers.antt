use Rattle.tinyjson.proofs.Callers.{begins, stop}
use Rattle.json_lines.proofs.Handling.{line_written, write_failed, line_told, tell_failed, at_line_error}
use Rattle.json_lines.proofs.lines.handle.Goals as goal

pub returns-in_err-cause : goal.returns-in_err-cause
returns-in_err-cause g c = λ line given.
    let told = g.E.Write.contents c.args.errors.now in
    at_line_error c.args.options c.args.number line (g.W.Write.contents c.args.output.now)
    (g.W.Write.contents c.write_given.new.output) told told
    c.from_residual.result c.in_err-cause.field-0.0 c.from_residual.ensures.0
    (write_failed c.args.options c.args.number line _ _ _ c.in_err-cause.field-0.0
    (c.in_err-cause.ensures c.args.options.max_line line given))

pub returns-in_default : goal.returns-in_default
returns-in_default g c = λ line given.
    line_written c.args.options c.args.number line _ _ _ c.in_ok-cause.field-0 c.in_default.is
    (c.in_ok-cause.ensures c.args.options.max_line line given)

pub returns-in_err-flush : goal.returns-in_err-flush
returns-in_err-flush g c = λ line given.
    let told = g.E.Write.contents c.args.errors.now in
    at_line_error c.args.options c.args.number line (g.W.Write.contents c.args.output.now) (g.W.Write.contents c.flush.new.self) told told
    c.from_residual-in_err-flush.result c.in_err-flush.field-0.0 c.from_residual-in_err-flush.ensures.0
    (tell_failed c.args.options c.args.number line _ _ _ told told c.in_ok-cause.field-0 c.in-Some.cause c.in-Some.is
    (c.in_ok-cause.ensures c.args.options.max_line line given) c.flush.ensures.bytes c.in_err-flush.field-0.0 (stop begins))

pub returns-in_err-tell : goal.returns-in_err-tell
returns-in_err-tell g c = λ line given.
    at_line_error c.args.options c.args.number line (g.W.Write.contents c.args.output.now) (g.W.Write.contents c.flush.new.self)
    (g.E.Write.contents c.args.errors.now) (g.E.Write.contents c.tell.new.errors)
    c.from_residual-in_err-tell.result c.in_err-tell.field-0.0 c.from_residual-in_err-tell.ensures.0
    (tell_failed c.args.options c.args.number line _ _ _ _ _ c.in_ok-cause.field-0 c.in-Some.cause c.in-Some.is
    (c.in_ok-cause.ensures c.args.options.max_line line given)
    c.flush.ensures.bytes c.in_err-tell.field-0.0 c.in_err-tell.ensures)

pub returns : goal.returns
returns g c = λ line given.
    line_told c.args.options c.args.number line _ _ _ _ _ c.in_ok-cause.field-0 c.in-Some.cause c.in-Some.is
    (c.in_ok-cause.ensures c.args.options.max_line line given) c.flush.ensures.bytes c.in_ok-tell.ensures
