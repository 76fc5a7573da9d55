use Rattle.std.proofs.Common.{[], take, map, ap, sym, ◌∙◌, ◌++◌, subst}
use Rattle.std.specs.List.{take-map}
use Rattle.std.proofs.lemmas.List.{map-id}
use Rattle.tinyjson_view.specs.Views.{tree_of}
use Rattle.tinyjson_schema.specs.Every.{spot_of, every}
use Rattle.tinyjson_schema.specs.Deep.{Descends}
use Rattle.tinyjson_schema.specs.Nested.{IfDeep}
use Rattle.tinyjson_schema.specs.Steps.{placed, AddsEvery}
use Rattle.tinyjson_schema.specs.Valid.{root_of}
use Rattle.tinyjson_schema.proofs.Emptied.{none_exactly}
use Rattle.std.proofs.Common.{IfErr}
use Rattle.tinyjson_schema.specs.Valid.{IsBeyond}
use Rattle.tinyjson_schema.proofs.Deep.{at_error}
use Rattle.tinyjson_schema.proofs.validate.every.find_violations.Goals as goal

pub returns-clause-first : goal.returns-clause-first
returns-clause-first c g =
    let w = c.args.walk in
    let n = c.args.limit in
    let xs = every (root_of w) w.steps g (root_of w).tree (tree_of c.args.value.now) in
    ap (map spot_of) c.truncate.ensures.items
    ∙ (sym (take-map spot_of n c.add_violations.new.found.items)
    ∙ (subst (λ s. AddsEvery n w [] s (tree_of c.args.value.now) c.new-found.result.items c.add_violations.new.found.items)
    c.by-here.ensures c.in_ok-add_violations.ensures g
    ∙ (ap (λ vs. take n (map spot_of vs ++ map (placed []) xs)) c.new-found.ensures.items ∙ ap (take n) (map-id xs))))

pub returns-clause-none : goal.returns-clause-none
returns-clause-none c =
    none_exactly c.args.limit (root_of c.args.walk) c.args.walk.steps (tree_of c.args.value.now) _ (returns-clause-first c)

pub returns-in_err-add_violations-clause-deep : goal.returns-in_err-add_violations-clause-deep
returns-in_err-add_violations-clause-deep c =
    let w = c.args.walk in
    at_error (λ r. IfErr r (IsBeyond w.steps (root_of w) (tree_of c.args.value.now))) c.in_err-add_violations.field-0.0 c.from_residual.result
    c.from_residual.ensures.1
    (subst (λ s. IfDeep c.in_err-add_violations.field-0.0 (Descends w s (tree_of c.args.value.now))) c.by-here.ensures
    c.in_err-add_violations.ensures)
