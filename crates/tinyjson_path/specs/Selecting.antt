-- Which children of a node a name, an index, a slice and a filter select (RFC 9535, 2.3).
use Rattle.std.specs.Prelude.{ℕ, suc, ◌+◌, ℤ, pos, negsuc, Bool, List, [], ◌∷◌, ◌++◌, reverse, Option, Some, None, cond, option_and_then}
use Rattle.tinyjson.specs.Index.{item_count, tree_at, tree_at_key}
use Rattle.tinyjson.specs.Tree.{Tree, array, Items, no_items, item}
use Rattle.tinyjson_path.specs.Nodes.{Step, at_key, at_index, Part, below}
use Rattle.tinyjson_path.specs.Slices.{place_of, clamped, clamped_after, bound_or, is_up, is_down}

-- the parts of each element, one after the other
abbrev pub from_each : {A : Type 0} → (A → List Part) → List A → List Part
from_each f [] = []
from_each f (x ∷ xs) = f x ++ from_each f xs

abbrev pub one_below : List Step → Step → Option Tree → List Part
one_below path s None = []
one_below path s (Some t) = below path s t ∷ []

abbrev pub by_name : List Step → List ℕ → Tree → List Part
by_name path k t = one_below path (at_key k) (tree_at_key t k)

abbrev pub items_in : Tree → ℕ
items_in (array ts) = item_count ts
items_in _ = 0

abbrev pub item_below : List Step → Tree → Option ℕ → List Part
item_below path t None = []
item_below path t (Some i) = one_below path (at_index i) (tree_at t i)

abbrev pub by_index : List Step → ℤ → Tree → List Part
by_index path z t = item_below path t (place_of z (items_in t))

-- the tree at the place, if there is one
abbrev pub tree_at_place : Tree → Option ℕ → Option Tree
tree_at_place t o = option_and_then (tree_at t) o

-- the items whose index passes the test; the first item has the index i
abbrev pub taken : (ℕ → Bool) → List Step → ℕ → Items → List Part
taken f path i no_items = []
taken f path i (item t ts) = cond (f i) (below path (at_index i) t ∷ []) [] ++ taken f path (i + 1) ts

abbrev pub up : List Step → Option ℤ → Option ℤ → ℕ → Items → ℕ → List Part
up path start end n ts len = taken (is_up (bound_or clamped start len 0) (bound_or clamped end len len) n) path 0 ts

abbrev pub down : List Step → Option ℤ → Option ℤ → ℕ → Items → ℕ → List Part
down path start end n ts len =
    reverse (taken (is_down (bound_or clamped_after end len 0) (bound_or clamped_after start len len) n) path 0 ts)

-- up from the start to before the end, or down from the start to after the end; up by one if there is no step
abbrev pub by_steps : List Step → Option ℤ → Option ℤ → Option ℤ → Items → ℕ → List Part
by_steps path start end None ts len = up path start end 1 ts len
by_steps path start end (Some (pos n)) ts len = up path start end n ts len
by_steps path start end (Some (negsuc n)) ts len = down path start end (suc n) ts len

abbrev pub by_slice : List Step → Option ℤ → Option ℤ → Option ℤ → Tree → List Part
by_slice path start end step (array ts) = by_steps path start end step ts (item_count ts)
by_slice path start end step _ = []
