use Rattle.std.proofs.Common.{refl}
use Rattle.tinyjson.specs.View.{view}
use Rattle.tinyjson_view.specs.Views.{tree_of, trees_of}
use Rattle.tinyjson_schema.specs.Every.{uses_of_item, item_uses}
use Rattle.tinyjson_schema.proofs.Adding.{indexed_next, indexed_end}
use Rattle.tinyjson_schema.proofs.validate.uses.add_items.Goals as goal

pub loop-index-preserved : goal.loop-index-preserved
loop-index-preserved c =
    let s = view c.args.here.now.schema.now in
    indexed_next (λ n xs. item_uses s n (trees_of xs)) c.args.items.now c.loop-index.index _ c.index-items-index.result _ _
    (uses_of_item s c.loop-index.index (tree_of c.index-items-index.result))
    c.loop-index-test.true c.index-items-index.is refl c.in_ok-add_item.ensures c.loop-index.invariant

pub returns : goal.returns
returns c = indexed_end (λ n xs. item_uses (view c.args.here.now.schema.now) n (trees_of xs)) c.args.items.now
    c.loop-index.index _ _ c.loop-index-test.false refl c.loop-index.invariant
