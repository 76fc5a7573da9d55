-- The tree of a value that is being changed. For private contracts.
use Rattle.std.specs.Box.{box_value}
use Rattle.std.specs.Prelude.{◌≡◌, List, map, String}
use Rattle.std.specs.declared.alloc.Global.{Global}
use Rattle.std.specs.declared.boxed.Box.{Box}
use Rattle.tinyjson.specs.View.{members_of}
use Rattle.tinyjson_grammar.specs.Kind.{kind_of}
use Rattle.tinyjson_grammar.specs.Tree.{Tree, array, object, Items, items_of, Members}
use Rattle.tinyjson_grammar.specs.declared.kind.JsonKind.TheVariants as kind
use Rattle.tinyjson_view.specs.Views.{tree_of}
use Rattle.tinyjson_patch.specs.declared.edit.edited.Edited.{Edited, fold-Edited, out-Edited}
use Rattle.tinyjson_patch.specs.declared.edit.edited.Edited.TheOpen.{Edited-F}
use Rattle.tinyjson_patch.specs.declared.edit.find.Part.{Part}
use Rattle.tinyjson_patch.specs.declared.edit.find.Part.TheVariants as part

-- one level, with each part already seen as its tree
abbrev pub tree_step : Edited-F Tree → Tree
tree_step (Edited-F.Kept v) = tree_of v
tree_step (Edited-F.Array v) = array (items_of (map box_value v.items))
tree_step (Edited-F.Object m) = object (members_of m.entries)

abbrev pub tree : Edited → Tree
tree = fold-Edited Tree tree_step

abbrev pub Item : Type 0
Item = Box Edited Global

abbrev pub item_tree : Item → Tree
item_tree b = tree (box_value b)

abbrev pub items_tree : List Item → Items
items_tree bs = items_of (map item_tree bs)

abbrev pub seen_entries : List (String Global × Edited) → List (String Global × Tree)
seen_entries es = map (λ e. (e.0, tree e.1)) es

abbrev pub members_tree : List (String Global × Edited) → Members
members_tree es = members_of (seen_entries es)

-- a value as it was is a scalar
abbrev pub is_apart_step : Edited-F Edited → Type 0
is_apart_step (Edited-F.Kept v) = (kind_of (tree_of v) ≡ kind.Object → ⊥) × (kind_of (tree_of v) ≡ kind.Array → ⊥)
is_apart_step _ = Unit {0}

abbrev pub IsApart : Edited → Type 0
IsApart e = is_apart_step (out-Edited e)

abbrev pub part_tree : Part → Tree
part_tree (part.Kept v) = tree_of v
part_tree (part.Changed e) = tree e.now
