use Rattle.tinyjson.specs.View.{view}
use Rattle.tinyjson_schema_table.proofs.Links.{nothing_added, both_added}
use Rattle.tinyjson_schema_table.proofs.table.add_all.Goals as goal

pub loop-keyword-init : goal.loop-keyword-init
loop-keyword-init c = nothing_added (view c.args.schema.now) c.args.shapes.now.items c.args.links.now.items

pub loop-keyword-preserved : goal.loop-keyword-preserved
loop-keyword-preserved c =
    both_added (view c.args.schema.now) c.args.shapes.now.items c.loop-keyword.shapes.items _ c.args.links.now.items
    c.loop-keyword.links.items _
    c.loop-keyword.invariant c.in_ok-add_by.ensures

pub returns : goal.returns
returns c = c.loop-keyword.invariant
