use Rattle.std.proofs.Common.{◌≡◌, ◌++◌, OnOk, subst}
use Rattle.tinyjson_path.specs.Nodes.{path_of, parts_view, children}
use Rattle.tinyjson_view.specs.Views.{tree_of}
use Rattle.tinyjson_path.proofs.Wanting.{kept_all}
use Rattle.tinyjson_path.proofs.children.push_children.Goals as goal

pub returns : goal.returns
returns c =
    subst (λ y. OnOk c.push_wanted.result (parts_view c.push_wanted.new.nodes.items ≡ parts_view c.args.nodes.now.items ++ y))
    (kept_all (children (path_of c.args.node.now) (tree_of c.args.node.now.value))) c.push_wanted.ensures
