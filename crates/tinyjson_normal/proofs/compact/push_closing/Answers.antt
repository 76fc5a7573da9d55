use Rattle.std.proofs.lemmas.Result.{IfOk-from_err}
use Rattle.tinyjson_normal.proofs.compact.push_closing.Goals as goal

pub returns-in_err-push-clause-some : goal.returns-in_err-push-clause-some
returns-in_err-push-clause-some c = λ xs e. IfOk-from_err c.from_residual.result _ c.from_residual.ensures.0

pub returns-in_err-push-clause-none : goal.returns-in_err-push-clause-none
returns-in_err-push-clause-none c = λ xs x e n. IfOk-from_err c.from_residual.result _ c.from_residual.ensures.0

pub returns-in_err-push-2-clause-some : goal.returns-in_err-push-2-clause-some
returns-in_err-push-2-clause-some c = λ xs e. IfOk-from_err c.from_residual-in_err-push-2.result _ c.from_residual-in_err-push-2.ensures.0

pub returns-in_err-push-2-clause-none : goal.returns-in_err-push-2-clause-none
returns-in_err-push-2-clause-none c = λ xs x e n. IfOk-from_err c.from_residual-in_err-push-2.result _ c.from_residual-in_err-push-2.ensures.0
