use Rattle.tinyjson_document.proofs.Values.{boolean_viewed, no_boolean_viewed}
use Rattle.tinyjson_document.proofs.view.RefJsonValueJsonView.boolean.Goals as goal

pub returns-in-Boolean : goal.returns-in-Boolean
returns-in-Boolean c = boolean_viewed _ _ c.in-Boolean.is

pub returns-in_default : goal.returns-in_default
returns-in_default c = no_boolean_viewed _ (λ b. c.in_default.not-Boolean b)
