use Rattle.tinyjson.specs.View.{view}
use Rattle.tinyjson_schema_table.proofs.Links.{nothing_added, both_added}
use Rattle.tinyjson_schema_table.proofs.table.add_keyed.Goals as goal

pub loop-key-init : goal.loop-key-init
loop-key-init c = nothing_added (view c.args.schema.now) c.args.shapes.now.items c.args.links.now.items

pub loop-key-preserved : goal.loop-key-preserved
loop-key-preserved c =
    both_added (view c.args.schema.now) c.args.shapes.now.items c.loop-key.shapes.items _ c.args.links.now.items c.loop-key.links.items _
    c.loop-key.invariant c.in_ok-add_at_key.ensures

pub returns : goal.returns
returns c = c.loop-key.invariant
