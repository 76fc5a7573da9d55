-- What contracts see of a document, of a value in it, and of what is left of a container: trees.
use Rattle.std.specs.Prelude.{◌≡◌, ℕ, List, Option, Some, None}
use Rattle.std.specs.Borrow.{Bor}
use Rattle.std.specs.Str.{chars}
use Rattle.tinyjson_grammar.specs.Tree.{Tree, Items, no_items, item, Members, no_members, member}
use Rattle.tinyjson_document.specs.declared.document.Document.{Document}
use Rattle.tinyjson_document.specs.declared.node.Node.{Node}
use Rattle.tinyjson_document.specs.declared.iterators.Items.{Items as ItemsLeft}
use Rattle.tinyjson_document.specs.declared.iterators.Members.{Members as MembersLeft}

-- the tree of the text that was parsed
abbrev pub document_tree : Document → Tree
document_tree d = d.known.tree

abbrev pub HasTree : Document → Tree → Type 0
HasTree d t = document_tree d ≡ t

-- the tree of a value in it
abbrev pub tree : Node → Tree
tree n = n.known.tree

-- the items that are left
abbrev pub items_left : ItemsLeft → Items
items_left s = s.known.items

-- the next item, if there is one
abbrev pub GivesItem : ItemsLeft → Option Node → ItemsLeft → Type 0
GivesItem s None t = (items_left s ≡ no_items) × (items_left t ≡ no_items)
GivesItem s (Some n) t = items_left s ≡ item (tree n) (items_left t)

-- the members that are left
abbrev pub members_left : MembersLeft → Members
members_left s = s.known.members

-- the next member with its key, if there is one
abbrev pub GivesMember : MembersLeft → Option (Bor (List ℕ) × Node) → MembersLeft → Type 0
GivesMember s None t = (members_left s ≡ no_members) × (members_left t ≡ no_members)
GivesMember s (Some e) t = members_left s ≡ member (chars e.0.now) (tree e.1) (members_left t)
