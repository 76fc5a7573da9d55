use Rattle.std.proofs.Common.{◌≡◌, ◌++◌}
use Rattle.tinyjson_document.specs.Document.{members_left}
use Rattle.tinyjson_path.specs.Nodes.{path_of, parts_view, members_at}
use Rattle.tinyjson_path.specs.Queries.{kept}
use Rattle.tinyjson_path.specs.Waiting.{wants}
use Rattle.tinyjson_path.proofs.children.push_ordered.Given as goal

abbrev pub invariant-loop-name : goal.invariant-loop-name
invariant-loop-name l =
    let path = path_of l.node in
    parts_view l.nodes.items ++ kept (wants l.wanted) (members_at path (members_left l.name-iterator))
    ≡ parts_view l.fn.nodes.items ++ kept (wants l.wanted) (members_at path (members_left l.members))
