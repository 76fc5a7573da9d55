use Rattle.std.proofs.Common.{◌∙◌, codes, option_map, refl, sym, ap}
use Rattle.tinyjson.specs.View.{view}
use Rattle.tinyjson_schema_keywords.proofs.Callers.{at_literal}
use Rattle.tinyjson_schema_drafts.specs.Translated.{id_of}
use Rattle.tinyjson_schema_drafts.proofs.translate.id_of.Goals as goal

pub returns-in-Draft4 : goal.returns-in-Draft4
returns-in-Draft4 c =
    let s = view c.args.schema.now in
    at_literal (option_map (λ x. view x.now) c.operand.result) s (codes "id") refl c.operand.ensures
    ∙ ap (λ d. id_of d s) (sym c.in-Draft4.is)
