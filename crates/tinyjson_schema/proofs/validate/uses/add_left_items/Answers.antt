use Rattle.std.proofs.Common.{[], ◌∷◌, cond, not, refl, ap}
use Rattle.tinyjson.specs.View.{view}
use Rattle.tinyjson_view.specs.Views.{tree_of, trees_of}
use Rattle.tinyjson_schema_keywords.specs.declared.keyword.Keyword.TheVariants as kw
use Rattle.tinyjson_schema.specs.Evaluated.{item_at}
use Rattle.tinyjson_schema.specs.Every.{index, by, left_items}
use Rattle.tinyjson_schema.specs.Sources.{sources_evaluate}
use Rattle.tinyjson_schema.proofs.Adding.{indexed_next, indexed_end, uses_as}
use Rattle.tinyjson_schema.specs.declared.walk.CheckError.TheVariants.{OutOfMemory}
use Rattle.std.proofs.Common.{◌∙◌}
use Rattle.tinyjson.specs.Index.{nth}
use Rattle.tinyjson_view.proofs.Callers.{nth_tree}
use Rattle.tinyjson_schema.proofs.Deep.{if_deep, raised}
use Rattle.tinyjson_schema.proofs.validate.uses.add_left_items.Goals as goal

pub invariant_of-one : goal.invariant_of-one
invariant_of-one c = record { same = c.args.rest.now.same }

pub loop-index-preserved : goal.loop-index-preserved
loop-index-preserved c g =
    let q = sources_evaluate g c.args.sources.now in
    let r = view c.args.rest.now.schema.now in
    let i = c.loop-index.index in
    let x = c.index-items-index.result in
    let one = by kw.UnevaluatedItems (index i) r (tree_of x) ∷ [] in
    indexed_next (λ n xs. left_items q r n (trees_of xs)) c.args.items.now i _ x _ _
    (cond (not (q (item_at i (tree_of x)))) one []) c.loop-index-test.true c.index-items-index.is refl
    (uses_as _ _ _ _ (ap (λ b. cond (not b) one []) (c.in_ok-evaluated.ensures g)) c.in_ok-add_if.ensures) (c.loop-index.invariant g)

pub returns : goal.returns
returns c g = indexed_end (λ n xs. left_items (sources_evaluate g c.args.sources.now) (view c.args.rest.now.schema.now) n (trees_of xs))
    c.args.items.now c.loop-index.index _ _ c.loop-index-test.false refl (c.loop-index.invariant g)

pub returns-in_err-evaluated : goal.returns-in_err-evaluated
returns-in_err-evaluated c =
    let i = c.loop-index.index in
    let x = c.index-items-index.result in
    raised _ _ c.in_err-evaluated.field-0.0 c.from_residual.result c.from_residual.ensures.1
    (if_deep c.in_err-evaluated.field-0.0
    (λ h root s t n e q. h root s t n
    (ap (λ us. nth us i) e ∙ nth_tree c.args.items.now i x c.loop-index-test.true c.index-items-index.is) q)
    c.in_err-evaluated.ensures)

pub returns-in_err-add_if : goal.returns-in_err-add_if
returns-in_err-add_if c =
    raised _ _ OutOfMemory c.from_residual-in_err-add_if.result c.from_residual-in_err-add_if.ensures.1 tt
