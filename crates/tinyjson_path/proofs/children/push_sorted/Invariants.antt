use Rattle.std.proofs.Common.{◌≡◌, ◌++◌, drop}
use Rattle.tinyjson_path.specs.Nodes.{path_of, parts_view, members_at}
use Rattle.tinyjson_path.specs.Queries.{kept}
use Rattle.tinyjson_path.specs.Waiting.{wants}
use Rattle.tinyjson.specs.View.{members_listed}
use Rattle.tinyjson_path.proofs.children.push_sorted.Given as goal

abbrev pub invariant-loop-member : goal.invariant-loop-member
invariant-loop-member l =
    let path = path_of l.node in
    parts_view l.nodes.items ++ kept (wants l.wanted) (members_at path (members_listed (drop l.member-index l.members)))
    ≡ parts_view l.fn.nodes.items ++ kept (wants l.wanted) (members_at path (members_listed l.members))
