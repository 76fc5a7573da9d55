-- Operations in order, of which some are left; for private contracts.
use Rattle.std.specs.Borrow.{Bor}
use Rattle.std.specs.Box.{box_value}
use Rattle.std.specs.Prelude.{◌≡◌, ◌≤◌, ◌-◌, ℕ, Bool, true, ◌&&◌, IsSome, List, Result, Ok, Err, length, map}
use Rattle.std.specs.declared.alloc.Global.{Global}
use Rattle.std.specs.declared.boxed.Box.{Box}
use Rattle.tinyjson.specs.Soundness.{IsTree}
use Rattle.tinyjson.specs.Tree.{Tree, array}
use Rattle.tinyjson.specs.View.{items_view}
use Rattle.tinyjson.specs.declared.value.JsonValue.{JsonValue}
use Rattle.tinyjson_pointer.specs.Siblings.{container_at, with_container, are_beside}
use Rattle.tinyjson_patch.specs.Operation.{Action, add, remove, replace, move, copy, test, action_of, applied, Applies}
use Rattle.tinyjson_patch.specs.Patch.{all_applied}
use Rattle.tinyjson_patch.specs.declared.operation.Operation.{Operation}
use Rattle.tinyjson_patch.specs.declared.operation.OperationError.{OperationError}
use Rattle.tinyjson_patch.specs.declared.operation.Reason.{Reason}
use Rattle.tinyjson_patch.specs.declared.patch.ApplyError.{ApplyError}
use Rattle.tinyjson_patch.specs.declared.patch.ApplyError.TheVariants.{Failed, OutOfMemory}

-- the tree after the operations that are left of this many
abbrev pub last_applied : ℕ → List Action → Tree → Result Tree (ℕ × Reason)
last_applied total actions t = all_applied (total - length actions) actions t

-- The result of the operation with this index, and the tree after success.
abbrev pub Follows : ℕ → Result Tree Reason → Result (Unit {0}) ApplyError → Tree → Type 0
Follows number outcome (Ok _) t' = outcome ≡ Ok t'
Follows number outcome (Err (Failed n r)) t' = (n ≡ number) × (outcome ≡ Err r)
Follows number outcome (Err OutOfMemory) t' = Unit {0}

-- Some of the operations were applied. Those that are left turn the tree into what all would.
abbrev pub RunsFirst : ℕ → List Action → Tree → Result (Bor (List Operation)) ApplyError → Tree → Type 0
RunsFirst total actions t (Ok rest) t' =
    (length rest.now ≤ length actions) × (last_applied total actions t ≡ last_applied total (map action_of rest.now) t')
RunsFirst total actions t (Err (Failed n r)) t' = last_applied total actions t ≡ Err (n, r)
RunsFirst total actions t (Err OutOfMemory) t' = Unit {0}

-- the tree with the container of the place that the tokens name replaced by an array of these items
abbrev pub with_items : Tree → List (List ℕ) → List JsonValue → Tree
with_items t ks vs = with_container t ks (array (items_view vs))

-- the same for items in boxes
abbrev pub with_boxes : Tree → List (List ℕ) → List (Box JsonValue Global) → Tree
with_boxes t ks bs = with_items t ks (map box_value bs)

-- all places that the operation names are in one container with this place
abbrev pub is_among : List (List ℕ) → Action → Bool
is_among ks (add path u) = are_beside path ks
is_among ks (remove path) = are_beside path ks
is_among ks (replace path u) = are_beside path ks
is_among ks (move from path) = are_beside from ks && are_beside path ks
is_among ks (copy from path) = are_beside from ks && are_beside path ks
is_among ks (test path u) = are_beside path ks

-- The effect on the items is that of the operation on each tree whose array has these items, and in which the
-- operation is among them.
abbrev pub AppliesAmong : Action → List (Box JsonValue Global) → Result (Unit {0}) OperationError → List (Box JsonValue Global) → Type 0
AppliesAmong a bs result bs' =
    (t : Tree) (ks : List (List ℕ)) → IsTree t → IsSome (container_at t ks) → is_among ks a ≡ true
    → Applies (applied a (with_boxes t ks bs)) result (with_boxes t ks bs')
