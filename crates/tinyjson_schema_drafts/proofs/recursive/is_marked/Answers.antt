use Rattle.std.proofs.Common.{◌∙◌, false, Some, None, codes, refl, ap}
use Rattle.std.specs.Option.{option_map_or}
use Rattle.tinyjson.specs.View.{view}
use Rattle.tinyjson_schema_keywords.proofs.Callers.{at_literal}
use Rattle.tinyjson_schema_drafts.specs.Rules.{is_true}
use Rattle.tinyjson_schema_drafts.proofs.recursive.is_marked.Goals as goal

pub returns-in-Some : goal.returns-in-Some
returns-in-Some c =
    let found = Some (view c.in-Some.mark.now) in
    c.is_true.ensures ∙ ap (λ o. option_map_or is_true o false)
    (at_literal found (view c.args.resource.now) (codes "$recursiveAnchor") refl c.in-Some.ensures)

pub returns-in-None : goal.returns-in-None
returns-in-None c = ap (λ o. option_map_or is_true o false)
    (at_literal None (view c.args.resource.now) (codes "$recursiveAnchor") refl c.in-None.ensures)
