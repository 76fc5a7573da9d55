use Rattle.std.proofs.Common.{[], ◌∷◌, ap, ◌∙◌}
use Rattle.std.specs.Option.{option_map_or}
use Rattle.tinyjson_view.specs.Views.{tree_of}
use Rattle.tinyjson.specs.View.{view}
use Rattle.tinyjson_schema_keywords.specs.Applied.{branch}
use Rattle.tinyjson_schema.specs.Every.{word, same, uses_at, branch_uses}
use Rattle.tinyjson_schema.specs.Valid.{says}
use Rattle.tinyjson_schema.proofs.Adding.{uses_none, uses_as}
use Rattle.tinyjson_schema.specs.declared.walk.CheckError.TheVariants.{OutOfMemory}
use Rattle.std.proofs.Common.{sym}
use Rattle.tinyjson_schema.specs.Nested.{within, by_if}
use Rattle.tinyjson_schema.proofs.Deep.{if_deep, raised}
use Rattle.tinyjson_schema.proofs.validate.uses.add_branch.Goals as goal

pub invariant_of-one : goal.invariant_of-one
invariant_of-one c = record { same = c.in-Some-part.part.same }

pub returns-in_default : goal.returns-in_default
returns-in_default c g =
    let f = says c.args.walk g in
    let s = view c.args.here.now.schema.now in
    let v = tree_of c.args.value.now in
    uses_as [] (branch_uses f s v) _ _ (ap (λ o. option_map_or (λ r. uses_at (branch (f r v)) s v) o []) c.in_default.ensures) (uses_none _)

pub returns-in_default-part : goal.returns-in_default-part
returns-in_default-part c g =
    let f = says c.args.walk g in
    let s = view c.args.here.now.schema.now in
    let v = tree_of c.args.value.now in
    let k = c.branch-chosen.result in
    uses_as [] (branch_uses f s v) _ _
    (ap (λ o. option_map_or (λ r. same (word k ∷ []) r v ∷ []) o []) c.in_default-part.ensures
    ∙ (ap (λ l. uses_at l s v) (c.branch-chosen.ensures ∙ ap branch (c.in_ok-accepted.ensures g))
    ∙ ap (λ o. option_map_or (λ r. uses_at (branch (f r v)) s v) o []) c.in-Some.ensures)) (uses_none _)

pub returns : goal.returns
returns c g =
    let f = says c.args.walk g in
    let s = view c.args.here.now.schema.now in
    let v = tree_of c.args.value.now in
    let k = c.branch-chosen.result in
    uses_as _ (branch_uses f s v) _ _
    (ap (λ o. option_map_or (λ r. same (word k ∷ []) r v ∷ []) o []) c.in-Some-part.ensures
    ∙ (ap (λ l. uses_at l s v) (c.branch-chosen.ensures ∙ ap branch (c.in_ok-accepted.ensures g))
    ∙ ap (λ o. option_map_or (λ r. uses_at (branch (f r v)) s v) o []) c.in-Some.ensures)) c.in_ok-add_if.ensures

pub returns-in_err-accepted : goal.returns-in_err-accepted
returns-in_err-accepted c =
    raised _ _ c.in_err-accepted.field-0.0 c.from_residual.result c.from_residual.ensures.1
    (if_deep c.in_err-accepted.field-0.0
    (λ h. within (by_if (sym c.in-Some.ensures)) h)
    c.in_err-accepted.ensures)

pub returns-in_err-add_if : goal.returns-in_err-add_if
returns-in_err-add_if c =
    raised _ _ OutOfMemory c.from_residual-in_err-add_if.result c.from_residual-in_err-add_if.ensures.1 tt
