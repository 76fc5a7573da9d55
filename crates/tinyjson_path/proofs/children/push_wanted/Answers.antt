use Rattle.std.proofs.Common.{◌≡◌, ◌++◌, ◌∙◌, OnOk, ap, append-nil, subst, sym}
use Rattle.tinyjson_path.specs.Nodes.{path_of, parts_view}
use Rattle.tinyjson_view.specs.Views.{tree_of}
use Rattle.tinyjson_path.specs.Queries.{kept}
use Rattle.tinyjson_path.specs.Waiting.{wants}
use Rattle.tinyjson_path.proofs.Comparisons.{array_children, object_children, no_children}
use Rattle.tinyjson_path.proofs.children.push_wanted.Goals as goal

pub returns-in-Array : goal.returns-in-Array
returns-in-Array c =
    subst (λ y. OnOk c.push_items.result (parts_view c.push_items.new.nodes.items ≡ parts_view c.args.nodes.now.items
    ++ kept (wants c.args.wanted) y))
    (array_children (path_of c.args.node.now) (tree_of c.args.node.now.value) (sym c.in-Array.is ∙ c.kind.ensures)) c.push_items.ensures

pub returns-in-Object : goal.returns-in-Object
returns-in-Object c =
    subst (λ y. OnOk c.push_members.result (parts_view c.push_members.new.nodes.items ≡ parts_view c.args.nodes.now.items
    ++ kept (wants c.args.wanted) y))
    (object_children (path_of c.args.node.now) (tree_of c.args.node.now.value) (sym c.in-Object.is ∙ c.kind.ensures)) c.push_members.ensures

pub returns-in_default : goal.returns-in_default
returns-in_default c =
    sym (append-nil (parts_view c.args.nodes.now.items))
    ∙ ap (λ y. parts_view c.args.nodes.now.items ++ kept (wants c.args.wanted) y)
    (no_children (path_of c.args.node.now) (tree_of c.args.node.now.value)
    (λ e. c.in_default.not-Array (c.kind.ensures ∙ sym e)) (λ e. c.in_default.not-Object (c.kind.ensures ∙ sym e)))
