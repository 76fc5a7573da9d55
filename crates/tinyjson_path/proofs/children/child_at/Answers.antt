use mir.Syntax.{w64}
use Rattle.std.proofs.Common.{◌≡◌, ◌∙◌, Some, None, ap}
use Rattle.std.proofs.lemmas.Int.{to_z-of_z}
use Rattle.tinyjson_view.specs.Views.{tree_of}
use Rattle.tinyjson_path.specs.Selecting.{items_in, tree_at_place}
use Rattle.tinyjson_path.specs.Slices.{place_of}
use Rattle.tinyjson_path.proofs.children.child_at.Goals as goal

pub returns-in-None : goal.returns-in-None
returns-in-None c =
    let z = c.args.index in
    let t = tree_of c.args.value in
    let at : None ≡ place_of z (items_in t) = c.in-None.ensures
    ∙ (ap (λ y. place_of y c.item_count.result) (to_z-of_z w64 z c.ranges.index) ∙ ap (place_of z) c.item_count.ensures) in
    ap (tree_at_place t) at

pub returns-in-Some : goal.returns-in-Some
returns-in-Some c =
    let z = c.args.index in
    let t = tree_of c.args.value in
    let at : Some c.in-Some.at ≡ place_of z (items_in t) = c.in-Some.ensures
    ∙ (ap (λ y. place_of y c.item_count.result) (to_z-of_z w64 z c.ranges.index) ∙ ap (place_of z) c.item_count.ensures) in
    c.item.ensures ∙ ap (tree_at_place t) at
