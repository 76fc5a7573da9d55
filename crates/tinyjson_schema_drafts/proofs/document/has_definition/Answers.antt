use Rattle.std.proofs.Common.{◌∙◌, false, ap}
use Rattle.std.specs.Option.{option_map_or}
use Rattle.tinyjson_schema_drafts.specs.Documents.{has_key}
use Rattle.tinyjson_schema_drafts.proofs.document.has_definition.Goals as goal

pub returns-in-Some : goal.returns-in-Some
returns-in-Some c = c.has_key.ensures ∙ ap (λ o. option_map_or (λ d. has_key d c.args.key.now) o false) c.in-Some.ensures

pub returns-in-None : goal.returns-in-None
returns-in-None c = ap (λ o. option_map_or (λ d. has_key d c.args.key.now) o false) c.in-None.ensures
