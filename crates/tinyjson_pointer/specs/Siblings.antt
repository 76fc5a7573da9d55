-- The container of the place that tokens name, taken out of its value.
use Rattle.std.specs.Box.{box_value}
use Rattle.std.specs.Prelude.{◌≡◌, Bool, false, ◌&&◌, ℕ, List, [], ◌∷◌, Option, Some, None, map}
use Rattle.std.specs.declared.alloc.Global.{Global}
use Rattle.std.specs.declared.boxed.Box.{Box}
use Rattle.tinyjson.specs.Tree.{Tree, Items, null}
use Rattle.tinyjson.specs.View.{items_view}
use Rattle.tinyjson.specs.declared.value.JsonValue.{JsonValue}
use Rattle.tinyjson_pointer.specs.Change.{all_but_last, last_of}
use Rattle.tinyjson_pointer.specs.Tokens.{begins_with}
use Rattle.tinyjson_pointer.specs.Walk.{part_at, with_part}

-- the container of the place that the tokens name; the whole has none
abbrev pub container_at : Tree → List (List ℕ) → Option Tree
container_at t [] = None
container_at t (k ∷ ks) = part_at t (all_but_last k ks)

-- the tree with that container replaced by c
abbrev pub with_container : Tree → List (List ℕ) → Tree → Tree
with_container t [] c = t
with_container t (k ∷ ks) c = with_part t (all_but_last k ks) c

-- the token of the place in it
abbrev pub child_name : List (List ℕ) → List ℕ
child_name [] = []
child_name (k ∷ ks) = last_of k ks

-- both name places in the same container
abbrev pub are_beside : List (List ℕ) → List (List ℕ) → Bool
are_beside (k ∷ ks) (l ∷ ls) =
    begins_with (all_but_last k ks) (all_but_last l ls) && begins_with (all_but_last l ls) (all_but_last k ks)
are_beside _ _ = false

-- The container c is taken out of t, and t' has null in its place.
abbrev pub IsTaken : Tree → List (List ℕ) → Tree → Tree → Type 0
IsTaken t ks c t' = (container_at t ks ≡ Some c) × (t' ≡ with_container t ks null)

-- the trees of items that are in boxes
abbrev pub boxes_view : List (Box JsonValue Global) → Items
boxes_view bs = items_view (map box_value bs)
