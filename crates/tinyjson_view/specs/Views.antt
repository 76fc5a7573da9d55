-- The trees of values, in documents and elsewhere, and of lists of them.
use Rattle.std.specs.Prelude.{List, [], ◌∷◌}
use Rattle.std.specs.Str.{chars}
use Rattle.tinyjson.specs.View.{view}
use Rattle.tinyjson_grammar.specs.Tree.{Tree, Items, no_items, item, Members, no_members, member}
use Rattle.tinyjson_document.specs.Document.{tree as node_tree}
use Rattle.tinyjson_view.specs.declared.view.MemberView.{MemberView}
use Rattle.tinyjson_view.specs.declared.view.ValueView.{ValueView}
use Rattle.tinyjson_view.specs.declared.view.ValueView.TheVariants.{InDocument, InValue}

-- the tree of a value
abbrev pub tree_of : ValueView → Tree
tree_of (InDocument n) = node_tree n
tree_of (InValue v) = view v.now

-- the items that a list has
abbrev pub trees_of : List ValueView → Items
trees_of [] = no_items
trees_of (v ∷ vs) = item (tree_of v) (trees_of vs)

-- the members that a list has, in its order
abbrev pub members_of : List MemberView → Members
members_of [] = no_members
members_of (e ∷ es) = member (chars e.key.now) (tree_of e.value) (members_of es)
