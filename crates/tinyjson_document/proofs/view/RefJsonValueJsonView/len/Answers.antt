use Rattle.std.proofs.Common.{◌∙◌}
use Rattle.tinyjson_document.proofs.Values.{items_size, members_size, no_size_viewed}
use Rattle.tinyjson_document.proofs.view.RefJsonValueJsonView.len.Goals as goal

pub returns-in-Array : goal.returns-in-Array
returns-in-Array c = c.len.ensures ∙ c.in-Array.items.ok.0 ∙ items_size _ _ c.in-Array.is

pub returns-in-Object : goal.returns-in-Object
returns-in-Object c = let e = c.len-in-Object.ensures in e.len ∙ members_size _ c.in-Object.members c.in-Object.is e.unique

pub returns-in_default : goal.returns-in_default
returns-in_default c = no_size_viewed _ (λ l. c.in_default.not-Array l) (λ m. c.in_default.not-Object m)
