use mir.Syntax.{w64}
use Rattle.std.proofs.Common.{◌≡◌, ◌++◌, ◌∙◌, Some, None, OnOk, ap, append-nil, subst, sym}
use Rattle.std.proofs.lemmas.Int.{to_z-of_z}
use Rattle.tinyjson_path.specs.Nodes.{path_of, parts_view}
use Rattle.tinyjson_view.specs.Views.{tree_of}
use Rattle.tinyjson_path.specs.Selecting.{item_below, items_in}
use Rattle.tinyjson_path.specs.Slices.{place_of}
use Rattle.tinyjson_path.proofs.children.push_indexed.Goals as goal

pub returns-in-None : goal.returns-in-None
returns-in-None c =
    let z = c.args.index in
    let t = tree_of c.args.node.now.value in
    let acc = parts_view c.args.nodes.now.items in
    let at : None ≡ place_of z (items_in t) = c.in-None.ensures
    ∙ (ap (λ y. place_of y c.item_count.result) (to_z-of_z w64 z c.ranges.index) ∙ ap (place_of z) c.item_count.ensures) in
    sym (append-nil acc) ∙ ap (λ o. acc ++ item_below (path_of c.args.node.now) t o) at

pub returns-in-Some : goal.returns-in-Some
returns-in-Some c =
    let z = c.args.index in
    let t = tree_of c.args.node.now.value in
    let at : Some c.in-Some.at ≡ place_of z (items_in t) = c.in-Some.ensures
    ∙ (ap (λ y. place_of y c.item_count.result) (to_z-of_z w64 z c.ranges.index) ∙ ap (place_of z) c.item_count.ensures) in
    subst (λ o. OnOk c.push_item.result (parts_view c.push_item.new.nodes.items ≡ parts_view c.args.nodes.now.items
    ++ item_below (path_of c.args.node.now) t o)) at c.push_item.ensures
