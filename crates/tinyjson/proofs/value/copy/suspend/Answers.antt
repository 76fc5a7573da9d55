use Rattle.std.proofs.Common.{◌∙◌, ◌+◌, ap}
use Rattle.tinyjson.proofs.Values.Copy.{filled_all_last, stack_weight_last}
use Rattle.tinyjson.proofs.value.copy.suspend.Goals as goal
use Rattle.tinyjson.specs.private.Copy.{filled_all, stack_weight, step_view, step_weight}

pub returns-in-Ok-clause-view : goal.returns-in-Ok-clause-view
returns-in-Ok-clause-view c = ap (λ ps. filled_all ps (step_view c.args.step)) c.in-Ok.ensures.items ∙ filled_all_last _ _ _

pub returns-in-Ok-clause-left : goal.returns-in-Ok-clause-left
returns-in-Ok-clause-left c = ap (λ ps. step_weight c.args.step + stack_weight ps) c.in-Ok.ensures.items
    ∙ ap (λ n. step_weight c.args.step + n) (stack_weight_last _ _)
