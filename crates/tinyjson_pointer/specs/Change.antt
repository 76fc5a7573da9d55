-- Inserting and removing a part (RFC 6902, sections 4.1 and 4.2).
use Rattle.std.specs.Prelude.{◌≡◌, ℕ, zero, suc, List, [], ◌∷◌, Option, Some, None, option_and_then, option_map, MatchOption, cond, codes}
use Rattle.std.specs.Prelude.{Result, Ok, Err}
use Rattle.std.specs.Str.{bytes_eq}
use Rattle.tinyjson.specs.Index.{item_count}
use Rattle.tinyjson.specs.Tree.{Tree, array, object, Items, no_items, item, put, remove}
use Rattle.tinyjson.specs.View.{view}
use Rattle.tinyjson.specs.declared.value.JsonValue.{JsonValue}
use Rattle.tinyjson_pointer.specs.Index.{index_of}
use Rattle.tinyjson_pointer.specs.Walk.{step, part_at, with_part}
use Rattle.tinyjson_pointer.specs.declared.change.InsertError.{InsertError}
use Rattle.tinyjson_pointer.specs.declared.change.InsertError.TheVariants.{NoPlace, OutOfMemory}

-- the items with u inserted before the one at the index, or after the last
abbrev pub with_item_before : Items → ℕ → Tree → Option Items
with_item_before ts zero u = Some (item u ts)
with_item_before no_items (suc i) u = None
with_item_before (item t ts) (suc i) u = option_map (item t) (with_item_before ts i u)

-- the items without the one at the index
abbrev pub without_nth : Items → ℕ → Items
without_nth no_items i = no_items
without_nth (item t ts) zero = ts
without_nth (item t ts) (suc i) = item t (without_nth ts i)

-- the index at which a token inserts an item into an array of this length; `-` is the end
abbrev pub insertion_index : ℕ → List ℕ → Option ℕ
insertion_index count k = cond (bytes_eq k (codes "-")) (Some count) (index_of k)

-- the container with u inserted at the token: a member, or one more item
abbrev pub with_child : Tree → List ℕ → Tree → Option Tree
with_child (object ms) k u = Some (object (put k u ms))
with_child (array ts) k u = option_map array (option_and_then (λ i. with_item_before ts i u) (insertion_index (item_count ts) k))
with_child _ k u = None

abbrev pub without_item : Items → Option ℕ → Items
without_item ts None = ts
without_item ts (Some i) = without_nth ts i

-- the container without the part that the token names
abbrev pub without_step : Tree → List ℕ → Tree
without_step (object ms) k = object (remove k ms)
without_step (array ts) k = array (without_item ts (index_of k))
without_step t k = t

abbrev pub without_child : Tree → List ℕ → Option Tree
without_child t k = option_map (λ u. without_step t k) (step t k)

-- the tree with f applied to the part that the tokens name; nothing if there is none, or f fails
abbrev pub changed_at : (Tree → Option Tree) → Tree → List (List ℕ) → Option Tree
changed_at f t ks = option_and_then (λ part. option_map (with_part t ks) (f part)) (part_at t ks)

-- the tokens without the last, and the last; the first is given apart
abbrev pub all_but_last : List ℕ → List (List ℕ) → List (List ℕ)
all_but_last k [] = []
all_but_last k (l ∷ ks) = k ∷ all_but_last l ks

abbrev pub last_of : List ℕ → List (List ℕ) → List ℕ
last_of k [] = k
last_of k (l ∷ ks) = last_of l ks

-- The tree with u inserted at the place that the tokens name. All tokens but the last name the container.
abbrev pub with_new_part : Tree → List (List ℕ) → Tree → Option Tree
with_new_part t [] u = Some u
with_new_part t (k ∷ ks) u = changed_at (λ part. with_child part (last_of k ks) u) t (all_but_last k ks)

-- the tree without the part that the tokens name; the whole can't be removed
abbrev pub without_part : Tree → List (List ℕ) → Option Tree
without_part t [] = None
without_part t (k ∷ ks) = changed_at (λ part. without_child part (last_of k ks)) t (all_but_last k ks)

-- What `insert` returns, and the tree then; the first argument is the tree with the part, if there is a
-- place for it.
abbrev pub Inserts : Option Tree → Tree → Result (Unit {0}) InsertError → Tree → Type 0
Inserts with t (Ok _) t' = with ≡ Some t'
Inserts with t (Err NoPlace) t' = (with ≡ None) × (t' ≡ t)
Inserts with t (Err OutOfMemory) t' = t' ≡ t

-- What `remove` returns, and the tree then; given the part, and the tree without it.
abbrev pub Removes : Option Tree → Option Tree → Tree → Option JsonValue → Tree → Type 0
Removes part without t result t' = MatchOption result
    ((without ≡ None) × (t' ≡ t))
    (λ old. (part ≡ Some (view old)) × (without ≡ Some t'))

-- the message of an error
abbrev pub insert_error_message : InsertError → List ℕ
insert_error_message NoPlace = codes "the pointer names no place for a value"
insert_error_message OutOfMemory = codes "out of memory"
