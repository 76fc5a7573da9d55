use Rattle.std.proofs.Common.{◌≡◌, ◌++◌, ◌∙◌, OnOk, ap, subst, sym}
use Rattle.tinyjson_document.specs.Parts.{members_in}
use Rattle.tinyjson_path.specs.Nodes.{path_of, parts_view, members_at}
use Rattle.tinyjson_view.specs.Views.{tree_of}
use Rattle.tinyjson_path.specs.Queries.{kept}
use Rattle.tinyjson_path.specs.Waiting.{wants}
use Rattle.tinyjson_path.proofs.children.push_members.Goals as goal

pub returns-in-InDocument : goal.returns-in-InDocument
returns-in-InDocument c =
    subst (λ y. OnOk c.push_ordered.result (parts_view c.push_ordered.new.nodes.items ≡ parts_view c.args.nodes.now.items
    ++ kept (wants c.args.wanted) (members_at (path_of c.args.node.now) y)))
    (c.members.ensures ∙ ap (λ v. members_in (tree_of v)) (sym c.in-InDocument.is)) c.push_ordered.ensures
