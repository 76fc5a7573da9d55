use Rattle.std.proofs.Common.{[], ◌∷◌, option_map, ap, sym, ◌∙◌}
use Rattle.std.specs.Option.{option_map_or}
use Rattle.tinyjson_view.specs.Views.{tree_of}
use Rattle.tinyjson.specs.View.{view}
use Rattle.tinyjson_schema.specs.Every.{word, same, target_uses}
use Rattle.tinyjson_schema.proofs.Adding.{uses_none, uses_as}
use Rattle.tinyjson_schema.proofs.validate.uses.add_target.Goals as goal

pub invariant_of-one : goal.invariant_of-one
invariant_of-one c = record { same = c.in-Some.part.same }

pub returns-in_default : goal.returns-in_default
returns-in_default c =
    let v = tree_of c.args.value.now in
    uses_as [] (target_uses (view c.args.walk.ground.now.whole.now.root.now) c.args.keyword (view c.args.here.now.schema.now) v) _ _
    (ap (λ o. option_map_or (λ r. same (word c.args.keyword ∷ []) r v ∷ []) o [])
    (ap (option_map (λ x. view x.schema.now)) (sym c.in_default.is) ∙ c.in_ok-part.ensures)) (uses_none _)

pub returns : goal.returns
returns c =
    let v = tree_of c.args.value.now in
    uses_as _ (target_uses (view c.args.walk.ground.now.whole.now.root.now) c.args.keyword (view c.args.here.now.schema.now) v) _ _
    (ap (λ o. option_map_or (λ r. same (word c.args.keyword ∷ []) r v ∷ []) o [])
    (ap (option_map (λ x. view x.schema.now)) (sym c.in-Some.is) ∙ c.in_ok-part.ensures)) c.in_ok-add_if.ensures
