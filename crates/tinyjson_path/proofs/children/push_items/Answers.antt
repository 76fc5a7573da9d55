use Rattle.std.proofs.Common.{◌≤◌, ◌+◌, [], arith, refl}
use Rattle.tinyjson_document.specs.Parts.{items_in, size}
use Rattle.tinyjson_path.specs.Nodes.{path_of, parts_view, items_from}
use Rattle.tinyjson_view.specs.Views.{tree_of}
use Rattle.tinyjson_path.specs.Waiting.{wants}
use Rattle.tinyjson_path.proofs.Items.{dropped, step_items, last_items, one_at}
use Rattle.tinyjson_path.proofs.Wanting.{keep_step, keep_last}
use Rattle.tinyjson_path.proofs.children.push_items.Goals as goal

pub loop-index-preserved : goal.loop-index-preserved
loop-index-preserved c =
    let path = path_of c.args.node.now in
    let t = tree_of c.args.node.now.value in
    let i = c.loop-index.index in
    let all = items_from path i (dropped i (items_in t)) in
    let rest = items_from path (i + 1) (dropped (i + 1) (items_in t)) in
    keep_step (wants c.args.wanted) (parts_view c.loop-index.nodes.items) (parts_view c.push_item_if.new.nodes.items) _
    (one_at path t i) rest all (step_items path t [] (one_at path t i) all i refl refl) c.in_ok-push_item_if.ensures
    c.loop-index.invariant

pub returns : goal.returns
returns c =
    let path = path_of c.args.node.now in
    let t = tree_of c.args.node.now.value in
    let i = c.loop-index.index in
    let past : size t ≤ i = omega (arith, c.loop-index-test.false, c.len-index-end.ensures) in
    let all = items_from path i (dropped i (items_in t)) in
    keep_last (wants c.args.wanted) (parts_view c.loop-index.nodes.items) _ all (last_items path t [] all i past refl)
    c.loop-index.invariant
