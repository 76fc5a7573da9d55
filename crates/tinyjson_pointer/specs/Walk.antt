-- The part of a tree that tokens name (RFC 6901, section 4), and the tree with that part replaced.
use Rattle.std.specs.Prelude.{◌≡◌, ℕ, List, [], ◌∷◌, Option, Some, None, option_and_then, Result, MatchResult}
use Rattle.std.specs.Option.{option_map_or}
use Rattle.tinyjson.specs.Index.{nth, with_nth}
use Rattle.tinyjson.specs.Tree.{Tree, array, object, Items, find, put}
use Rattle.tinyjson.specs.View.{view}
use Rattle.tinyjson.specs.declared.value.JsonValue.{JsonValue}
use Rattle.tinyjson_pointer.specs.Index.{index_of}

abbrev pub item_of : Items → Option ℕ → Option Tree
item_of ts None = None
item_of ts (Some i) = nth ts i

-- the part that one token names: a member by its key, an item by its index
abbrev pub step : Tree → List ℕ → Option Tree
step (object ms) k = find k ms
step (array ts) k = item_of ts (index_of k)
step _ k = None

-- the part that the tokens name
abbrev pub part_at : Tree → List (List ℕ) → Option Tree
part_at t [] = Some t
part_at t (k ∷ ks) = option_and_then (λ u. part_at u ks) (step t k)

abbrev pub with_item_of : Items → Option ℕ → Tree → Items
with_item_of ts None u = ts
with_item_of ts (Some i) u = with_nth ts i u

-- the tree with the part that the token names replaced by u
abbrev pub with_step : Tree → List ℕ → Tree → Tree
with_step (object ms) k u = object (put k u ms)
with_step (array ts) k u = array (with_item_of ts (index_of k) u)
with_step t k u = t

-- the tree with the part that the tokens name replaced by u; the same tree if they name none
abbrev pub with_part : Tree → List (List ℕ) → Tree → Tree
with_part t [] u = u
with_part t (k ∷ ks) u = option_map_or (λ part. with_step t k (with_part part ks u)) (step t k) t

-- What `replace` returns: the old part, and the new one is in its place; or, if the tokens name no part,
-- the new one, and nothing changes.
abbrev pub Replaces : Tree → List (List ℕ) → JsonValue → Result JsonValue JsonValue → Tree → Type 0
Replaces t ks part result t' = MatchResult result
    (λ old. (part_at t ks ≡ Some (view old)) × (t' ≡ with_part t ks (view part)))
    (λ given. (part_at t ks ≡ None) × (given ≡ part) × (t' ≡ t))
