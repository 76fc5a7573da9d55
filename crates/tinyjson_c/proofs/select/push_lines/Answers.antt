use Rattle.tinyjson_c.proofs.Selecting.{one_more_node}
use Rattle.tinyjson_path.proofs.Callers.{drop_at}
use Rattle.tinyjson_c.proofs.select.push_lines.Goals as goal

pub loop-node-preserved : goal.loop-node-preserved
loop-node-preserved c =
    one_more_node c.args.paths c.node-item.result _ _ _ _ _
    (drop_at c.args.nodes.now c.loop-node.node-index c.node-item.result c.loop-node-test.true c.node-item.is)
    c.loop-node.invariant c.in_ok-push_line.ensures
