-- Nodes: parts of a tree with their normalized paths (RFC 9535, 2.7); children and descendants in order.
use Rattle.std.specs.Prelude.{◌≡◌, ℕ, ◌+◌, List, [], ◌∷◌, ◌++◌, map, Option, None, Some}
use Rattle.tinyjson.specs.Tree.{Tree, null, boolean, number, string, array, object, Items, no_items, item, Members, no_members, member}
use Rattle.std.specs.Str.{chars}
use Rattle.tinyjson_path.specs.declared.node.Location.{Location, fold-Location, Location-F}
use Rattle.tinyjson_path.specs.declared.node.Located.{Located}
use Rattle.tinyjson_view.specs.Views.{tree_of}

-- a step to a member or to an item
pub data Step : Type 0 where
  at_key : List ℕ → Step
  at_index : ℕ → Step

-- a part and its normalized path
pub record Part : Type 0 where
  pub path : List Step
  pub tree : Tree

abbrev pub root_part : Tree → Part
root_part t = record { path = []; tree = t }

abbrev pub below : List Step → Step → Tree → Part
below path s t = record { path = path ++ s ∷ []; tree = t }

abbrev pub items_from : List Step → ℕ → Items → List Part
items_from path i no_items = []
items_from path i (item t ts) = below path (at_index i) t ∷ items_from path (i + 1) ts

abbrev pub members_at : List Step → Members → List Part
members_at path no_members = []
members_at path (member k t ms) = below path (at_key k) t ∷ members_at path ms

-- items in their order, members in the order of their keys
abbrev pub children : List Step → Tree → List Part
children path (array ts) = items_from path 0 ts
children path (object ms) = members_at path ms
children path _ = []

-- the part and its descendants, each before its children
abbrev mutual
  pub visited : List Step → Tree → List Part
  visited path null = record { path = path; tree = null } ∷ []
  visited path (boolean b) = record { path = path; tree = boolean b } ∷ []
  visited path (number d) = record { path = path; tree = number d } ∷ []
  visited path (string cs) = record { path = path; tree = string cs } ∷ []
  visited path (array ts) = record { path = path; tree = array ts } ∷ visited_items path 0 ts
  visited path (object ms) = record { path = path; tree = object ms } ∷ visited_members path ms

  pub visited_items : List Step → ℕ → Items → List Part
  visited_items path i no_items = []
  visited_items path i (item t ts) = visited (path ++ at_index i ∷ []) t ++ visited_items path (i + 1) ts

  pub visited_members : List Step → Members → List Part
  visited_members path no_members = []
  visited_members path (member k t ms) = visited (path ++ at_key k ∷ []) t ++ visited_members path ms

-- ---- the view of the code's nodes

abbrev pub path_step : Location-F (List Step) → List Step
path_step Location-F.Root = []
path_step (Location-F.Member up k) = up.value ++ at_key (chars k.now) ∷ []
path_step (Location-F.Item up i) = up.value ++ at_index i ∷ []

abbrev pub path_view : Location → List Step
path_view = fold-Location (List Step) path_step

abbrev pub path_of : Located → List Step
path_of n = path_view n.location.value

abbrev pub part_view : Located → Part
part_view n = record { path = path_of n; tree = tree_of n.value }

abbrev pub parts_view : List Located → List Part
parts_view ns = map part_view ns

-- Of the parts that were to come the first is the node, and the rest is still to come; or there was none.
abbrev pub Takes : List Part → List Part → Option Located → Type 0
Takes old new (Some n) = old ≡ part_view n ∷ new
Takes old new None = (old ≡ []) × (new ≡ [])
