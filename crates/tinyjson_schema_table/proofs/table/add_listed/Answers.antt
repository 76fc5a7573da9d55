use Rattle.std.proofs.Common.{◌≡◌, ◌∙◌, Some, slice_get, option_map, sym, ap}
use Rattle.tinyjson.proofs.Callers.{nth_items_view}
use Rattle.tinyjson.specs.Index.{nth}
use Rattle.tinyjson.specs.View.{view}
use Rattle.tinyjson_schema_table.proofs.Links.{nothing_added, both_added, got_at}
use Rattle.tinyjson_schema_table.proofs.table.add_listed.Goals as goal

pub loop-index-init : goal.loop-index-init
loop-index-init c = nothing_added (view c.args.schema.now) c.args.shapes.now.items c.args.links.now.items

pub loop-index-preserved : goal.loop-index-preserved
loop-index-preserved c =
    let s = view c.args.schema.now in
    let vs = c.schemas_at-listed.result.now in
    let i = c.loop-index.index in
    let v = c.index-listed-index.result in
    let there : slice_get vs i ≡ Some v = got_at vs i v c.loop-index-test.true ∙ ap (λ x. Some x) (sym c.index-listed-index.is) in
    both_added s c.args.shapes.now.items c.loop-index.shapes.items _ c.args.links.now.items c.loop-index.links.items _ c.loop-index.invariant
    (c.in_ok-add_link.ensures s (ap (λ ts. nth ts i) (sym c.schemas_at-listed.ensures)
    ∙ (nth_items_view vs i ∙ ap (option_map view) there)))
