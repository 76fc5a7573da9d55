-- Containers that are taken apart.
use Rattle.std.proofs.Common.{◌≡◌, ◌++◌, List, [], ◌∷◌, refl, ap, ◌∙◌}
use Rattle.std.specs.Box.{box_value}
use Rattle.tinyjson_grammar.specs.Tree.{Items, item}
use Rattle.tinyjson_view.specs.Views.{trees_of}
use Rattle.tinyjson_view.specs.declared.view.ValueView.{ValueView}
use Rattle.tinyjson_patch.specs.private.Edited.{tree, Item, item_tree, items_tree}
use Rattle.tinyjson_patch.specs.declared.edit.edited.Edited.TheVariants as is
use Rattle.tinyjson_patch.proofs.Editing.Trees.{tree_Kept}

-- the items, and then those of the views
abbrev pub kept_before : List Item → List ValueView → Items
kept_before [] vs = trees_of vs
kept_before (e ∷ es) vs = item (item_tree e) (kept_before es vs)

pub one_more : (es : List Item) (b : Item) (v : ValueView) (vs : List ValueView) → box_value b ≡ is.Kept v
    → kept_before (es ++ b ∷ []) vs ≡ kept_before es (v ∷ vs)
one_more [] b v vs kept = ap (λ t. item t (trees_of vs)) (ap tree kept ∙ tree_Kept v)
one_more (e ∷ es) b v vs kept = ap (item (item_tree e)) (one_more es b v vs kept)

pub no_more : (es : List Item) → items_tree es ≡ kept_before es []
no_more [] = refl
no_more (e ∷ es) = ap (item (item_tree e)) (no_more es)
