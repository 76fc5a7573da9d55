use Rattle.std.proofs.Common.{◌≡◌, ◌++◌}
use Rattle.tinyjson_document.specs.Parts.{items_in}
use Rattle.tinyjson_path.specs.Nodes.{path_of, parts_view, items_from}
use Rattle.tinyjson_view.specs.Views.{tree_of}
use Rattle.tinyjson_path.specs.Queries.{kept}
use Rattle.tinyjson_path.specs.Waiting.{wants}
use Rattle.tinyjson_path.proofs.Items.{dropped}
use Rattle.tinyjson_path.proofs.children.push_items.Given as goal

abbrev pub invariant-loop-index : goal.invariant-loop-index
invariant-loop-index l =
    let path = path_of l.node in
    let ts = items_in (tree_of l.node.value) in
    parts_view l.nodes.items ++ kept (wants l.wanted) (items_from path l.index (dropped l.index ts))
    ≡ parts_view l.fn.nodes.items ++ kept (wants l.wanted) (items_from path 0 ts)
