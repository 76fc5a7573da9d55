use Rattle.std.proofs.Common.{◌+◌, drop, subst}
use Rattle.tinyjson.proofs.Callers.{fails, goes}
use Rattle.tinyjson.specs.Written.{Written}
use Rattle.json_path.specs.Shapes.{lines_of}
use Rattle.tinyjson_path.specs.Nodes.{parts_view}
use Rattle.tinyjson_path.proofs.Callers.{drop_at}
use Rattle.json_path.proofs.lines.write_lines.Goals as goal

pub returns-in_err-write_line : goal.returns-in_err-write_line
returns-in_err-write_line g c =
    let ns = c.args.nodes.now in
    let i = c.loop-node.node-index in
    fails _ (lines_of c.args.shape (parts_view (drop (i + 1) ns))) c.from_residual.ensures.0 c.in_err-write_line.ensures
    (subst (λ rest. Written (g.W.Write.contents c.args.output.now) (g.W.Write.contents c.loop-node.output)
    (lines_of c.args.shape (parts_view ns)) (lines_of c.args.shape (parts_view rest)))
    (drop_at ns i c.node-item.result c.loop-node-test.true c.node-item.is) c.loop-node.invariant)

pub loop-node-preserved : goal.loop-node-preserved
loop-node-preserved g c =
    let ns = c.args.nodes.now in
    let i = c.loop-node.node-index in
    goes (lines_of c.args.shape (parts_view (drop (i + 1) ns))) c.in_ok-write_line.ensures
    (subst (λ rest. Written (g.W.Write.contents c.args.output.now) (g.W.Write.contents c.loop-node.output)
    (lines_of c.args.shape (parts_view ns)) (lines_of c.args.shape (parts_view rest)))
    (drop_at ns i c.node-item.result c.loop-node-test.true c.node-item.is) c.loop-node.invariant)
