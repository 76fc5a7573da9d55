use Rattle.std.proofs.Common.{◌≡◌, ◌≤◌, ◌+◌, ◌++◌, ◌∙◌, ap, arith, subst, sym}
use Rattle.tinyjson_document.specs.Parts.{items_in, size}
use Rattle.tinyjson_path.specs.Nodes.{path_of, parts_view}
use Rattle.tinyjson_view.specs.Views.{tree_of}
use Rattle.tinyjson_path.specs.Selecting.{taken}
use Rattle.tinyjson_path.specs.Slices.{is_up}
use Rattle.tinyjson_path.proofs.Items.{up_taken, up_passed, last_up, taken_left}
use Rattle.tinyjson_path.proofs.children.push_up.Goals as goal
use Rattle.tinyjson_path.proofs.children.push_up.Goals.{then-is_up+in_ok-push_item, else-is_up}

pub loop-index-preserved : goal.loop-index-preserved
loop-index-preserved c =
    let path = path_of c.args.node.now in
    let f = is_up c.args.bounds.low c.args.bounds.high c.args.bounds.step in
    let t = tree_of c.args.node.now.value in
    let i = c.loop-index.index in
    let acc = parts_view c.loop-index.nodes.items in
    let wanted = parts_view c.args.nodes.now.items ++ taken f path 0 (items_in t) in
    elim c.if-is_up.branch [
      | then-is_up+in_ok-push_item w ↦
          up_taken path f t acc (parts_view c.if-is_up.nodes.items) wanted i (sym w.if-is_up.ensures)
          (ap (λ v. parts_view v.items) w.nodes-is ∙ w.in_ok-push_item.ensures) c.loop-index.invariant
      | else-is_up w ↦
          subst (λ v. parts_view v.items ++ taken_left path f t (i + 1) ≡ wanted) (sym w.nodes-is)
          (up_passed path f t acc wanted i (sym w.if-is_up.ensures) c.loop-index.invariant)
    ]

pub returns : goal.returns
returns c =
    let past : size (tree_of c.args.node.now.value) ≤ c.loop-index.index
    = omega (arith, c.loop-index-test.false, c.len-index-end.ensures) in
    last_up (path_of c.args.node.now) (is_up c.args.bounds.low c.args.bounds.high c.args.bounds.step) (tree_of c.args.node.now.value)
    (parts_view c.loop-index.nodes.items) _ c.loop-index.index past c.loop-index.invariant
