use Rattle.std.proofs.Common.{◌++◌, ◌∙◌, [], ◌∷◌, is_some, cond, map, refl, ap}
use Rattle.std.specs.Str.{chars}
use Rattle.tinyjson.specs.Index.{tree_at_key}
use Rattle.tinyjson.specs.View.{view, text, members_listed}
use Rattle.tinyjson_view.specs.Views.{tree_of}
use Rattle.tinyjson_schema_keywords.specs.declared.keyword.Keyword.TheVariants as kw
use Rattle.tinyjson_schema.specs.Every.{token, word, same, dependent_uses}
use Rattle.tinyjson_schema.specs.Steps.{use_of}
use Rattle.tinyjson_schema.proofs.Adding.{gather_next, gather_end, uses_as}
use Rattle.tinyjson_schema.specs.declared.walk.CheckError.TheVariants.{OutOfMemory}
use Rattle.tinyjson_schema.proofs.Deep.{raised}
use Rattle.std.proofs.Common.{◌≡◌, Some, sym, subst}
use Rattle.tinyjson.specs.Soundness.{IsSorted}
use Rattle.tinyjson.specs.Tree.{find}
use Rattle.tinyjson_schema_keywords.proofs.Callers.{listed_found}
use Rattle.tinyjson_schema_keywords.specs.Applied.{schema_map_at}
use Rattle.tinyjson_schema_table.specs.Links.{keyed}
use Rattle.tinyjson_schema_table.specs.Places.{LeadsTo}
use Rattle.tinyjson_schema.proofs.Alternatives.{key_known}
use Rattle.tinyjson_schema.proofs.validate.uses.add_dependents.Goals as goal

pub invariant_of-one : goal.invariant_of-one
invariant_of-one c =
    let here = c.args.here.now in
    let s = view here.schema.now in
    let ps = c.as_slice-dependents.result.now in
    let p = c.loop-key-item.result in
    let k = text p.0.now in
    let r = view p.1.now in
    let n = c.known_part-known.result in
    let sorted = subst (λ xs. IsSorted (members_listed xs)) (sym c.as_slice-dependents.ensures.value) c.in_ok-listed.ensures.sorted in
    let at : find k (schema_map_at s kw.DependentSchemas) ≡ Some r
    = ap (find k) (sym (ap members_listed c.as_slice-dependents.ensures.value ∙ c.in_ok-listed.ensures.listed))
    ∙ listed_found ps c.loop-key.key-index p sorted c.loop-key-test.true c.loop-key-item.is in
    let leads : LeadsTo (keyed s kw.DependentSchemas k) n
    = subst (λ bs. LeadsTo (keyed s kw.DependentSchemas (chars bs)) n) c.as_str-name.ensures.value
    (c.known_part-known.ensures s here.same) in
    record { same = key_known s kw.DependentSchemas k r n at leads }

pub loop-key-preserved : goal.loop-key-preserved
loop-key-preserved c =
    let v = tree_of c.args.value.now in
    let p = c.loop-key-item.result in
    let r = view p.1.now in
    let here = c.has_key-is_wanted.ensures ∙ ap (λ bs. is_some (tree_at_key v (chars bs))) c.as_str-name.ensures.value in
    gather_next (λ xs. dependent_uses (members_listed xs) v) c.as_slice-dependents.result.now c.loop-key.key-index _ p _ _
    (cond (is_some (tree_at_key v (text p.0.now))) (same (word kw.DependentSchemas ∷ token (text p.0.now) ∷ []) r v ∷ []) [])
    c.loop-key-test.true c.loop-key-item.is refl
    (uses_as _ _ _ _ (λ i. cond (here i)
    (same (word kw.DependentSchemas ∷ token (chars (c.as_str-name.ensures.value i)) ∷ []) r v ∷ []) []) c.in_ok-add_if.ensures)
    c.loop-key.invariant

pub returns : goal.returns
returns c =
    let v = tree_of c.args.value.now in
    gather_end (λ xs. dependent_uses (members_listed xs) v) c.as_slice-dependents.result.now c.loop-key.key-index _ _
    c.loop-key-test.false refl c.loop-key.invariant
    ∙ ap (λ rs. map use_of c.args.pending.now.items ++ dependent_uses rs v)
    (ap members_listed c.as_slice-dependents.ensures.value ∙ c.in_ok-listed.ensures.listed)

pub returns-in_err-listed : goal.returns-in_err-listed
returns-in_err-listed c =
    raised _ _ OutOfMemory c.from_residual.result c.from_residual.ensures.1 tt

pub returns-in_err-add_if : goal.returns-in_err-add_if
returns-in_err-add_if c =
    raised _ _ OutOfMemory c.from_residual-in_err-add_if.result c.from_residual-in_err-add_if.ensures.1 tt
