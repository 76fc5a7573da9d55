use Rattle.std.proofs.Common.{◌++◌, ◌∙◌, [], ◌∷◌, map, refl, ap}
use Rattle.tinyjson.specs.View.{view, items_view}
use Rattle.tinyjson_schema_keywords.specs.declared.keyword.Keyword.TheVariants as kw
use Rattle.tinyjson_view.specs.Views.{tree_of}
use Rattle.tinyjson_schema.specs.Every.{index, word, same, all_uses}
use Rattle.tinyjson_schema.specs.Steps.{use_of}
use Rattle.tinyjson_schema.proofs.Adding.{indexed_next, indexed_end}
use Rattle.tinyjson_schema.proofs.Alternatives.{alternative_known}
use Rattle.tinyjson_schema.proofs.validate.uses.add_all_of.Goals as goal

pub invariant_of-one : goal.invariant_of-one
invariant_of-one c =
    let here = c.args.here.now in
    let s = view here.schema.now in
    record {
      same = alternative_known s kw.AllOf c.schemas_at-parts.result.now c.loop-index.index c.index-parts-index.result
          c.known_part-known.result c.schemas_at-parts.ensures c.loop-index-test.true c.index-parts-index.is
          (c.known_part-known.ensures s here.same);
    }

pub loop-index-preserved : goal.loop-index-preserved
loop-index-preserved c =
    let v = tree_of c.args.value.now in
    let i = c.loop-index.index in
    let x = c.index-parts-index.result in
    indexed_next (λ n xs. all_uses n (items_view xs) v) c.schemas_at-parts.result.now i _ x _ _
    (same (word kw.AllOf ∷ index i ∷ []) (view x) v ∷ []) c.loop-index-test.true c.index-parts-index.is refl c.in_ok-add_if.ensures c.loop-index.invariant

pub returns : goal.returns
returns c =
    let v = tree_of c.args.value.now in
    indexed_end (λ n xs. all_uses n (items_view xs) v) c.schemas_at-parts.result.now c.loop-index.index _ _ c.loop-index-test.false refl
    c.loop-index.invariant ∙ ap (λ rs. map use_of c.args.pending.now.items ++ all_uses 0 rs v) c.schemas_at-parts.ensures
