use Rattle.std.proofs.Common.{◌+◌, true, false, drop, subst}
use Rattle.tinyjson.proofs.Callers.{fails, goes}
use Rattle.tinyjson.specs.Written.{Written}
use Rattle.json_path.specs.Shapes.{items_text}
use Rattle.tinyjson_path.specs.Nodes.{parts_view}
use Rattle.tinyjson_path.proofs.Callers.{drop_at}
use Rattle.json_path.proofs.array.write_items.Goals as goal

pub returns-in_err-write_next : goal.returns-in_err-write_next
returns-in_err-write_next g c =
    let ns = c.args.nodes.now in
    let i = c.loop-node.node-index in
    fails _ (items_text c.args.shape false (parts_view (drop (i + 1) ns))) c.from_residual.ensures.0 c.in_err-write_next.ensures
    (subst (λ rest. Written (g.W.Write.contents c.args.output.now) (g.W.Write.contents c.loop-node.output)
    (items_text c.args.shape true (parts_view ns)) (items_text c.args.shape c.loop-node.is_first (parts_view rest)))
    (drop_at ns i c.node-item.result c.loop-node-test.true c.node-item.is) c.loop-node.invariant)

pub loop-node-preserved : goal.loop-node-preserved
loop-node-preserved g c =
    let ns = c.args.nodes.now in
    let i = c.loop-node.node-index in
    goes (items_text c.args.shape false (parts_view (drop (i + 1) ns))) c.in_ok-write_next.ensures
    (subst (λ rest. Written (g.W.Write.contents c.args.output.now) (g.W.Write.contents c.loop-node.output)
    (items_text c.args.shape true (parts_view ns)) (items_text c.args.shape c.loop-node.is_first (parts_view rest)))
    (drop_at ns i c.node-item.result c.loop-node-test.true c.node-item.is) c.loop-node.invariant)
