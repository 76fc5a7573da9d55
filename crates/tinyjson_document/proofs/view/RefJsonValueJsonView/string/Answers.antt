use Rattle.std.proofs.Common.{◌∙◌, Some, ap}
use Rattle.std.specs.Str.{chars}
use Rattle.tinyjson_document.proofs.Values.{string_viewed, no_string_viewed}
use Rattle.tinyjson_document.proofs.view.RefJsonValueJsonView.string.Goals as goal

pub returns-in-String : goal.returns-in-String
returns-in-String c = ap Some (ap chars c.as_str.ensures.value) ∙ string_viewed _ _ c.in-String.is

pub returns-in_default : goal.returns-in_default
returns-in_default c = no_string_viewed _ (λ s. c.in_default.not-String s)
