use Rattle.std.proofs.Common.{◌≡◌, ◌-◌, ◌++◌, ◌∙◌, suc, ap, append-nil, arith, sym}
use Rattle.tinyjson_path.specs.Nodes.{path_of, parts_view}
use Rattle.tinyjson_view.specs.Views.{tree_of}
use Rattle.tinyjson_path.specs.Slices.{is_down}
use Rattle.tinyjson_path.proofs.Items.{down_taken, down_passed, first_down, taken_down}
use Rattle.tinyjson_path.proofs.children.push_down.Goals as goal

pub loop-index-init : goal.loop-index-init
loop-index-init c =
    let path = path_of c.args.node.now in
    let f = is_down c.args.bounds.low c.args.bounds.high c.args.bounds.step in
    let t = tree_of c.args.node.now.value in
    ap (λ z. parts_view c.args.nodes.now.items ++ z) (ap (taken_down path f t) c.len-index.ensures ∙ first_down path f t)

pub loop-index-preserved : goal.loop-index-preserved
loop-index-preserved c =
    let before : c.loop-index.index ≡ suc (c.loop-index.index - 1) = omega (arith, c.loop-index-test.true) in
    down_passed (path_of c.args.node.now) (is_down c.args.bounds.low c.args.bounds.high c.args.bounds.step)
    (tree_of c.args.node.now.value) (parts_view c.loop-index.nodes.items) _ (c.loop-index.index - 1) c.loop-index.index before
    (sym c.if-is_down.ensures) c.loop-index.invariant

pub loop-index-preserved-in-Continue-1 : goal.loop-index-preserved-in-Continue-1
loop-index-preserved-in-Continue-1 c =
    let before : c.loop-index.index ≡ suc (c.loop-index.index - 1) = omega (arith, c.loop-index-test.true) in
    down_taken (path_of c.args.node.now) (is_down c.args.bounds.low c.args.bounds.high c.args.bounds.step)
    (tree_of c.args.node.now.value) (parts_view c.loop-index.nodes.items) (parts_view c.push_item.new.nodes.items) _
    (c.loop-index.index - 1) c.loop-index.index before (sym c.if-is_down.ensures) c.in_ok-push_item.ensures c.loop-index.invariant

pub returns : goal.returns
returns c =
    let acc = parts_view c.loop-index.nodes.items in
    let path = path_of c.args.node.now in
    let f = is_down c.args.bounds.low c.args.bounds.high c.args.bounds.step in
    let none : 0 ≡ c.loop-index.index = omega (arith, c.loop-index-test.false) in
    sym (append-nil acc) ∙ (ap (λ k. acc ++ taken_down path f (tree_of c.args.node.now.value) k) none ∙ c.loop-index.invariant)
