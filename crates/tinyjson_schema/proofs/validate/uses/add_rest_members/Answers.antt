use Rattle.std.proofs.Common.{◌≡◌, [], ap, ◌∙◌}
use Rattle.std.specs.Option.{option_map_or}
use Rattle.tinyjson.specs.View.{view}
use Rattle.tinyjson_view.specs.Views.{tree_of}
use Rattle.tinyjson_schema_keywords.specs.Applied.{members_in}
use Rattle.tinyjson_schema.specs.Evaluated.{Child, others_evaluate}
use Rattle.tinyjson_schema.specs.Every.{left_members, rest_members}
use Rattle.tinyjson_schema.specs.Sources.{sources_evaluate}
use Rattle.tinyjson_schema.specs.Valid.{answers_in}
use Rattle.tinyjson_schema.proofs.Adding.{uses_none, uses_as}
use Rattle.tinyjson_schema.proofs.Deep.{not_deep, raised}
use Rattle.tinyjson_schema.proofs.validate.uses.add_rest_members.Goals as goal

pub returns-in_default : goal.returns-in_default
returns-in_default c g =
    let s = view c.args.here.now.schema.now in
    let v = tree_of c.args.value.now in
    let q = others_evaluate (view c.args.walk.ground.now.whole.now.root.now) (answers_in c.args.walk g) s v in
    uses_as [] (rest_members q s v) _ _ (ap (λ o. option_map_or (λ r. left_members q r (members_in v)) o []) c.in_default.ensures)
    (uses_none _)

pub returns : goal.returns
returns c g =
    let s = view c.args.here.now.schema.now in
    let v = tree_of c.args.value.now in
    let r = view c.in-Some.rest.schema.now in
    let q = others_evaluate (view c.args.walk.ground.now.whole.now.root.now) (answers_in c.args.walk g) s v in
    let told : (k : Child) → sources_evaluate g c.as_slice.result.now k ≡ q k
    = λ k. ap (λ xs. sources_evaluate g xs k) c.as_slice.ensures.value ∙ c.in_ok-sources.ensures.evaluated g k in
    uses_as _ (rest_members q s v) _ _
    ((λ i. left_members (λ k. told k i) r (c.requires i))
    ∙ ap (λ o. option_map_or (λ r. left_members q r (members_in v)) o []) c.in-Some.ensures) (c.in_ok-add_left_members.ensures g)

pub returns-in_err-sources : goal.returns-in_err-sources
returns-in_err-sources c =
    raised _ _ c.in_err-sources.field-0.0 c.from_residual.result c.from_residual.ensures.1 c.in_err-sources.ensures.deep

pub returns-in_err-add_left_members : goal.returns-in_err-add_left_members
returns-in_err-add_left_members c =
    raised _ _ c.in_err-add_left_members.field-0.0 c.from_residual-in_err-add_left_members.result c.from_residual-in_err-add_left_members.ensures.1 (not_deep _ c.in_err-add_left_members.field-0.0 c.in_err-add_left_members.ensures)
