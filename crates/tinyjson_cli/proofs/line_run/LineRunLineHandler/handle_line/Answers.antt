use Rattle.tinyjson_cli.proofs.Answering.{answered, at_error, reported, unreported, unwritten}
use Rattle.tinyjson_cli.proofs.line_run.LineRunLineHandler.handle_line.Goals as goal

pub returns-in_err-status : goal.returns-in_err-status
returns-in_err-status g c =
    at_error g.T.Tool.gives c.args.self.now c.answer_line.new.self c.args.number _ _ _ _ _ _ c.from_residual.result
    c.from_residual.ensures.0
    (λ e. unwritten g.T.Tool.gives c.args.self.now c.answer_line.new.self c.args.number _ _ _ _ c.answer_line.new.self
    c.in_err-status.field-0.0 e c.in_err-status.ensures)

pub returns-in-Ok : goal.returns-in-Ok
returns-in-Ok g c =
    answered g.T.Tool.gives c.args.self.now c.answer_line.new.self c.args.number _ _ _ _ c.in_ok-status.field-0 c.in-Ok.status
    c.and-self.result c.in-Ok.is c.in_ok-status.ensures c.and-self.ensures

pub returns-in_err-tell_unanswered : goal.returns-in_err-tell_unanswered
returns-in_err-tell_unanswered g c =
    at_error g.T.Tool.gives c.args.self.now c.answer_line.new.self c.args.number _ _ _ _ _ _
    c.from_residual-in_err-tell_unanswered.result c.from_residual-in_err-tell_unanswered.ensures.0
    (λ e. unreported g.T.Tool.gives c.args.self.now c.answer_line.new.self c.args.number _ _ _ _ _ _ c.in_ok-status.field-0
    c.in-Err.why c.in-Err.is c.in_ok-status.ensures c.flush.ensures.bytes c.status_without.result c.and-self-2.result
    c.status_without.ensures c.and-self-2.ensures e c.in_err-tell_unanswered.ensures)

pub returns : goal.returns
returns g c =
    reported g.T.Tool.gives c.args.self.now c.answer_line.new.self c.args.number _ _ _ _ _ _ c.in_ok-status.field-0
    c.in-Err.why c.in-Err.is c.in_ok-status.ensures c.flush.ensures.bytes c.status_without.result c.and-self-2.result
    c.status_without.ensures c.and-self-2.ensures c.in_ok-tell_unanswered.ensures
