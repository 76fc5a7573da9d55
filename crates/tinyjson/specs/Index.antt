-- The places in a value: an item of an array, a member of an object.
use Rattle.std.specs.Prelude.{◌≡◌, ℕ, zero, suc, List, Option, Some, None, slice_get, option_and_then}
use Rattle.std.specs.HashMap.{get_by_text}
use Rattle.std.specs.Option.{IfSome, option_map_or}
use Rattle.std.specs.Map.{set_value}
use Rattle.std.specs.Str.{bytes_eq, chars}
use Rattle.std.specs.String.{string_bytes}
use Rattle.std.specs.Vec.{with_item}
use Rattle.tinyjson.specs.Access.{JsonMap, array_part, object_part}
use Rattle.tinyjson_grammar.specs.Tree.{Tree, array, object, Items, no_items, item, find, put}
use Rattle.tinyjson.specs.View.{view}
use Rattle.tinyjson.specs.declared.value.JsonValue as made
use Rattle.tinyjson.specs.declared.value.JsonValue.{JsonValue}

-- the item at the index
abbrev pub item_at : JsonValue → ℕ → Option JsonValue
item_at v i = option_and_then (λ list. slice_get list.items i) (array_part v)

-- the member at the key whose bytes are bs
abbrev pub member_at : JsonValue → List ℕ → Option JsonValue
member_at v bs = option_and_then (λ m. get_by_text m bs) (object_part v)

abbrev pub nth : Items → ℕ → Option Tree
nth no_items i = None
nth (item t ts) zero = Some t
nth (item t ts) (suc i) = nth ts i

abbrev pub item_count : Items → ℕ
item_count no_items = 0
item_count (item t ts) = suc (item_count ts)

-- the tree at the index, in a tree
abbrev pub tree_at : Tree → ℕ → Option Tree
tree_at (array ts) i = nth ts i
tree_at _ i = None

-- the tree at the key, in a tree
abbrev pub tree_at_key : Tree → List ℕ → Option Tree
tree_at_key (object ms) k = find k ms
tree_at_key _ k = None

-- the items with u in place of the one at the index
abbrev pub with_nth : Items → ℕ → Tree → Items
with_nth no_items i u = no_items
with_nth (item t ts) zero u = item u ts
with_nth (item t ts) (suc i) u = item t (with_nth ts i u)

-- the items with u after the last
abbrev pub with_last : Items → Tree → Items
with_last no_items u = item u no_items
with_last (item t ts) u = item t (with_last ts u)

-- the tree with u in place of the item at the index
abbrev pub with_tree_at : Tree → ℕ → Tree → Tree
with_tree_at (array ts) i u = array (with_nth ts i u)
with_tree_at t i u = t

-- the tree with u at the key
abbrev pub with_tree_at_key : Tree → List ℕ → Tree → Tree
with_tree_at_key (object ms) k u = object (put k u ms)
with_tree_at_key t k u = t

-- x is the item at the index, and its tree is the one that v's tree has there
abbrev pub IsItemAt : JsonValue → ℕ → JsonValue → Type 0
IsItemAt v i x = (item_at v i ≡ Some x) × (tree_at (view v) i ≡ Some (view x))

-- x is the member at the key, and its tree is the one that v's tree has there
abbrev pub IsMemberAt : JsonValue → List ℕ → JsonValue → Type 0
IsMemberAt v bs x = (member_at v bs ≡ Some x) × (tree_at_key (view v) (chars bs) ≡ Some (view x))

-- n is m with w in place of what the key had
abbrev pub IsMapWith : JsonMap → List ℕ → JsonValue → JsonMap → Type 0
IsMapWith m bs w n = n.entries ≡ set_value (λ k. bytes_eq bs (string_bytes k)) m.entries w

-- n is the object v with w in place of the member at the key
abbrev pub IsWithMember : JsonValue → List ℕ → JsonValue → JsonValue → Type 0
IsWithMember v bs w n = IfSome (object_part v) (λ m. (new : JsonMap) × (n ≡ made.Object new) × IsMapWith m bs w new)

-- v with w in place of the item at the index
abbrev pub with_item_at : JsonValue → ℕ → JsonValue → JsonValue
with_item_at v i w = option_map_or (λ list. made.Array (with_item list i w)) (array_part v) v
