use Rattle.std.proofs.Common.{◌∙◌, [], ap}
use Rattle.std.specs.Prelude.{unwrap_or}
use Rattle.tinyjson_schema_drafts.specs.Meta.{documents_with}
use Rattle.tinyjson_schema_drafts.proofs.wanted.documents_of.Goals as goal

pub returns-in-Some : goal.returns-in-Some
returns-in-Some c = ap (λ o. unwrap_or o []) (c.in-Some.ensures ∙ ap documents_with c.uri_of.ensures)

pub returns-in-None : goal.returns-in-None
returns-in-None c = ap (λ o. unwrap_or o []) (c.in-None.ensures ∙ ap documents_with c.uri_of.ensures)
