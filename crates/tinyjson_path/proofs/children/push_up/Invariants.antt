use Rattle.std.proofs.Common.{◌≡◌, ◌++◌}
use Rattle.tinyjson_document.specs.Parts.{items_in}
use Rattle.tinyjson_path.specs.Nodes.{path_of, parts_view}
use Rattle.tinyjson_view.specs.Views.{tree_of}
use Rattle.tinyjson_path.specs.Selecting.{taken}
use Rattle.tinyjson_path.specs.Slices.{is_up}
use Rattle.tinyjson_path.proofs.Items.{taken_left}
use Rattle.tinyjson_path.proofs.children.push_up.Given as goal

abbrev pub invariant-loop-index : goal.invariant-loop-index
invariant-loop-index l =
    let path = path_of l.node in
    let f = is_up l.bounds.low l.bounds.high l.bounds.step in
    parts_view l.nodes.items ++ taken_left path f (tree_of l.node.value) l.index
    ≡ parts_view l.fn.nodes.items ++ taken f path 0 (items_in (tree_of l.node.value))
