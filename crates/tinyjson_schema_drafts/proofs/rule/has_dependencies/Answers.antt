use Rattle.std.proofs.Common.{◌∙◌, codes, is_some, refl, ap}
use Rattle.tinyjson.proofs.Callers.{chars_literal}
use Rattle.tinyjson.specs.Index.{tree_at_key}
use Rattle.tinyjson.specs.View.{view}
use Rattle.tinyjson_schema_drafts.proofs.rule.has_dependencies.Goals as goal

pub returns : goal.returns
returns c = c.has_key.ensures
    ∙ ap (λ bs. is_some (tree_at_key (view c.args.schema.now) bs)) (chars_literal (codes "dependencies") refl)
