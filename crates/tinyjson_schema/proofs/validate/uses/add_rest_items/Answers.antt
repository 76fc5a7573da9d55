use Rattle.std.proofs.Common.{◌≡◌, [], sym, ap, ◌∙◌, subst}
use Rattle.std.specs.Option.{option_map_or}
use Rattle.tinyjson.specs.View.{view}
use Rattle.tinyjson_view.specs.Views.{tree_of}
use Rattle.tinyjson_schema_keywords.specs.Applied.{items_in}
use Rattle.tinyjson_schema.specs.Evaluated.{Child, others_evaluate}
use Rattle.tinyjson_schema.specs.Every.{left_items, rest_items}
use Rattle.tinyjson_schema.specs.Sources.{sources_evaluate, AreWithin}
use Rattle.tinyjson_schema.specs.Valid.{answers_in}
use Rattle.tinyjson_schema.proofs.Adding.{uses_none, uses_as}
use Rattle.std.proofs.Common.{sym, subst, suc}
use Rattle.tinyjson_schema.specs.Deep.{root_tree}
use Rattle.tinyjson_schema.specs.Sources.{AreReached}
use Rattle.tinyjson_schema.proofs.Deep.{if_deep, raised}
use Rattle.tinyjson_schema.proofs.validate.uses.add_rest_items.Goals as goal

pub add_left_items-requires : goal.add_left_items-requires
add_left_items-requires c = subst (AreWithin c.args.walk.steps) (sym c.as_slice.ensures.value) c.in_ok-sources.ensures.within

pub returns-in_default : goal.returns-in_default
returns-in_default c g =
    let s = view c.args.here.now.schema.now in
    let v = tree_of c.args.value.now in
    let q = others_evaluate (view c.args.walk.ground.now.whole.now.root.now) (answers_in c.args.walk g) s v in
    uses_as [] (rest_items q s v) _ _ (ap (λ o. option_map_or (λ r. left_items q r 0 (items_in v)) o []) c.in_default.ensures) (uses_none _)

pub returns : goal.returns
returns c g =
    let s = view c.args.here.now.schema.now in
    let v = tree_of c.args.value.now in
    let r = view c.in-Some.rest.schema.now in
    let q = others_evaluate (view c.args.walk.ground.now.whole.now.root.now) (answers_in c.args.walk g) s v in
    let told : (k : Child) → sources_evaluate g c.as_slice.result.now k ≡ q k
    = λ k. ap (λ xs. sources_evaluate g xs k) c.as_slice.ensures.value ∙ c.in_ok-sources.ensures.evaluated g k in
    uses_as _ (rest_items q s v) _ _
    ((λ i. left_items (λ k. told k i) r 0 (c.requires i))
    ∙ ap (λ o. option_map_or (λ r. left_items q r 0 (items_in v)) o []) c.in-Some.ensures) (c.in_ok-add_left_items.ensures g)

pub returns-in_err-sources : goal.returns-in_err-sources
returns-in_err-sources c =
    raised _ _ c.in_err-sources.field-0.0 c.from_residual.result c.from_residual.ensures.1 c.in_err-sources.ensures.deep

pub returns-in_err-add_left_items : goal.returns-in_err-add_left_items
returns-in_err-add_left_items c =
    let w = c.args.walk in
    let s = view c.args.here.now.schema.now in
    let v = tree_of c.args.value.now in
    raised _ _ c.in_err-add_left_items.field-0.0 c.from_residual-in_err-add_left_items.result c.from_residual-in_err-add_left_items.ensures.1
    (if_deep c.in_err-add_left_items.field-0.0
    (λ h. h (root_tree w) s v (suc w.steps) (sym c.requires)
    (subst (AreReached (root_tree w) (suc w.steps) s v) (sym c.as_slice.ensures.value) c.in_ok-sources.ensures.reached))
    c.in_err-add_left_items.ensures)
