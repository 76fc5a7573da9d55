use Rattle.tinyjson_document.proofs.Values.{number_viewed, no_number_viewed}
use Rattle.tinyjson_document.proofs.view.RefJsonValueJsonView.number.Goals as goal

pub returns-in-Number : goal.returns-in-Number
returns-in-Number c = number_viewed _ _ c.in-Number.is

pub returns-in_default : goal.returns-in_default
returns-in_default c = no_number_viewed _ (λ n. c.in_default.not-Number n)
