use Rattle.std.proofs.Common.{◌∙◌, sym, ap}
use Rattle.std.proofs.lemmas.Slice.Eq.{bytes_eq-Decides}
use Rattle.std.specs.Str.{chars}
use Rattle.tinyjson.proofs.Callers.Laws.{two_spaces}
use Rattle.tinyjson_document.proofs.layout.is_two_spaces.Goals as goal

pub returns : goal.returns
returns c = λ h. ap chars ((bytes_eq-Decides _ _).0 (sym c.eq.ensures ∙ h)) ∙ two_spaces
