use Rattle.std.proofs.Common.{◌≡◌, ◌++◌, ap, ◌∙◌, map}
use Rattle.tinyjson.specs.View.{view}
use Rattle.tinyjson_view.specs.Views.{tree_of, trees_of, members_of}
use Rattle.tinyjson_schema_keywords.specs.Applied.{schemas_at, schema_map_at, members_in, items_in}
use Rattle.tinyjson_schema_keywords.specs.declared.keyword.Keyword.TheVariants as kw
use Rattle.tinyjson_schema.specs.Every.{all_uses, branch_uses, dependent_uses, pattern_uses, target_uses, member_uses}
use Rattle.tinyjson_schema.specs.Every.{item_uses, rest_members, rest_items, uses}
use Rattle.tinyjson_schema.specs.Steps.{use_of}
use Rattle.tinyjson_schema.specs.Valid.{answers_in, says}
use Rattle.tinyjson_schema.specs.Evaluated.{others_evaluate}
use Rattle.tinyjson_schema.proofs.Adding.{uses_as, joined, same_items}
use Rattle.tinyjson_schema.proofs.Loops.{same_members}
use Rattle.tinyjson_schema.specs.declared.walk.CheckError.TheVariants.{OutOfMemory}
use Rattle.tinyjson_schema.proofs.Deep.{not_deep, raised}
use Rattle.tinyjson_schema.proofs.validate.uses.uses_in.Goals as goal

pub add_rest_members-requires : goal.add_rest_members-requires
add_rest_members-requires c =
    ap members_of c.as_slice-members.ensures.value ∙ (c.in_ok-named.ensures.listed ∙ same_members (tree_of c.args.value.now))

pub add_rest_items-requires : goal.add_rest_items-requires
add_rest_items-requires c =
    ap trees_of c.as_slice-items.ensures.value ∙ (c.in_ok-listed.ensures ∙ same_items (tree_of c.args.value.now))

pub returns : goal.returns
returns c g =
    let s = view c.args.here.now.schema.now in
    let v = tree_of c.args.value.now in
    let members = ap members_of c.as_slice-members.ensures.value ∙ (c.in_ok-named.ensures.listed ∙ same_members v) in
    let items = ap trees_of c.as_slice-items.ensures.value ∙ (c.in_ok-listed.ensures ∙ same_items v) in
    let w = c.args.walk in
    let root = view w.ground.now.whole.now.root.now in
    let q = others_evaluate root (answers_in w g) s v in
    let all : map use_of c.add_rest_items.new.pending.items ≡ map use_of c.new-pending.result.items ++ uses root (answers_in w g) s v
    = joined (all_uses 0 (schemas_at s kw.AllOf) v) _ _ _ _ c.in_ok-add_all_of.ensures
    (joined (branch_uses (says w g) s v) _ _ _ _ (c.in_ok-add_branch.ensures g)
    (joined (dependent_uses (schema_map_at s kw.DependentSchemas) v) _ _ _ _ c.in_ok-add_dependents.ensures
    (joined (pattern_uses (schema_map_at s kw.PatternProperties) (members_in v)) _ _ _ _
    (uses_as _ _ _ _ (ap (pattern_uses (schema_map_at s kw.PatternProperties)) members) c.in_ok-add_patterned.ensures)
    (joined (target_uses root kw.Ref s v) _ _ _ _ c.in_ok-add_target.ensures
    (joined (target_uses root kw.DynamicRef s v) _ _ _ _ c.in_ok-add_target-2.ensures
    (joined (member_uses s (members_in v)) _ _ _ _ (uses_as _ _ _ _ (ap (member_uses s) members) c.in_ok-add_members.ensures)
    (joined (item_uses s 0 (items_in v)) _ _ _ _ (uses_as _ _ _ _ (ap (item_uses s 0) items) c.in_ok-add_items.ensures)
    (joined (rest_members q s v) (rest_items q s v) _ _ _ (c.in_ok-add_rest_members.ensures g) (c.in_ok-add_rest_items.ensures g))))))))) in
    all ∙ ap (λ ps. map use_of ps ++ uses root (answers_in w g) s v) c.new-pending.ensures.items

pub returns-in_err-add_all_of : goal.returns-in_err-add_all_of
returns-in_err-add_all_of c =
    raised _ _ OutOfMemory c.from_residual.result c.from_residual.ensures.1 tt

pub returns-in_err-add_branch : goal.returns-in_err-add_branch
returns-in_err-add_branch c =
    raised _ _ c.in_err-add_branch.field-0.0 c.from_residual-in_err-add_branch.result c.from_residual-in_err-add_branch.ensures.1 c.in_err-add_branch.ensures

pub returns-in_err-add_dependents : goal.returns-in_err-add_dependents
returns-in_err-add_dependents c =
    raised _ _ c.in_err-add_dependents.field-0.0 c.from_residual-in_err-add_dependents.result c.from_residual-in_err-add_dependents.ensures.1 (not_deep _ c.in_err-add_dependents.field-0.0 c.in_err-add_dependents.ensures)

pub returns-in_err-named : goal.returns-in_err-named
returns-in_err-named c =
    raised _ _ OutOfMemory c.from_residual-in_err-named.result c.from_residual-in_err-named.ensures.1 tt

pub returns-in_err-add_patterned : goal.returns-in_err-add_patterned
returns-in_err-add_patterned c =
    raised _ _ c.in_err-add_patterned.field-0.0 c.from_residual-in_err-add_patterned.result c.from_residual-in_err-add_patterned.ensures.1 (not_deep _ c.in_err-add_patterned.field-0.0 c.in_err-add_patterned.ensures)

pub returns-in_err-add_target : goal.returns-in_err-add_target
returns-in_err-add_target c =
    raised _ _ OutOfMemory c.from_residual-in_err-add_target.result c.from_residual-in_err-add_target.ensures.1 tt

pub returns-in_err-add_target-2 : goal.returns-in_err-add_target-2
returns-in_err-add_target-2 c =
    raised _ _ OutOfMemory c.from_residual-in_err-add_target-2.result c.from_residual-in_err-add_target-2.ensures.1 tt

pub returns-in_err-add_members : goal.returns-in_err-add_members
returns-in_err-add_members c =
    raised _ _ c.in_err-add_members.field-0.0 c.from_residual-in_err-add_members.result c.from_residual-in_err-add_members.ensures.1
    (not_deep _ c.in_err-add_members.field-0.0 c.in_err-add_members.ensures)

pub returns-in_err-listed : goal.returns-in_err-listed
returns-in_err-listed c =
    raised _ _ OutOfMemory c.from_residual-in_err-listed.result c.from_residual-in_err-listed.ensures.1 tt

pub returns-in_err-add_items : goal.returns-in_err-add_items
returns-in_err-add_items c =
    raised _ _ OutOfMemory c.from_residual-in_err-add_items.result c.from_residual-in_err-add_items.ensures.1 tt

pub returns-in_err-add_rest_members : goal.returns-in_err-add_rest_members
returns-in_err-add_rest_members c =
    raised _ _ c.in_err-add_rest_members.field-0.0 c.from_residual-in_err-add_rest_members.result c.from_residual-in_err-add_rest_members.ensures.1 c.in_err-add_rest_members.ensures

pub returns-in_err-add_rest_items : goal.returns-in_err-add_rest_items
returns-in_err-add_rest_items c =
    raised _ _ c.in_err-add_rest_items.field-0.0 c.from_residual-in_err-add_rest_items.result c.from_residual-in_err-add_rest_items.ensures.1 c.in_err-add_rest_items.ensures
