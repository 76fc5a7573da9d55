use Rattle.std.proofs.Common.{◌≡◌, ◌++◌, OnOk, subst}
use Rattle.tinyjson_path.specs.Nodes.{path_of, parts_view}
use Rattle.tinyjson_view.specs.Views.{tree_of}
use Rattle.tinyjson_path.proofs.Values.{up_is, down_is}
use Rattle.tinyjson_path.proofs.children.push_slice.Goals as goal

pub returns-in-Up : goal.returns-in-Up
returns-in-Up c =
    subst (λ y. OnOk c.push_up.result (parts_view c.push_up.new.nodes.items ≡ parts_view c.args.nodes.now.items ++ y))
    (up_is (tree_of c.args.node.now.value) (path_of c.args.node.now) c.args.start c.args.end c.args.step c.in-Up.step
    c.item_count-len.result c.bound-low.result c.bound-high.result c.in-Up.ensures c.item_count-len.ensures c.bound-low.ensures
    c.bound-high.ensures)
    c.push_up.ensures

pub returns-in-Down : goal.returns-in-Down
returns-in-Down c =
    subst (λ y. OnOk c.push_down.result (parts_view c.push_down.new.nodes.items ≡ parts_view c.args.nodes.now.items ++ y))
    (down_is (tree_of c.args.node.now.value) (path_of c.args.node.now) c.args.start c.args.end c.args.step c.in-Down.step
    c.item_count-len.result c.bound_after-low.result c.bound_after-high.result c.in-Down.ensures c.item_count-len.ensures
    c.bound_after-low.ensures c.bound_after-high.ensures)
    c.push_down.ensures
