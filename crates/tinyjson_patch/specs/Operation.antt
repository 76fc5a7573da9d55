-- The operations of a patch, applied to a tree (RFC 6902, section 4). A path is given by its tokens.
use Rattle.std.specs.Prelude.{◌≡◌, ℕ, List, [], ◌∷◌, Option, Some, None, Result, Ok, Err, cond, codes}
use Rattle.tinyjson.specs.Equality.{tree_eq}
use Rattle.tinyjson.specs.Tree.{Tree}
use Rattle.tinyjson.specs.View.{view}
use Rattle.tinyjson.specs.declared.value.JsonValue.{JsonValue}
use Rattle.tinyjson_pointer.specs.Change.{with_new_part, without_part}
use Rattle.tinyjson_pointer.specs.Tokens.{tokens_of, begins_with}
use Rattle.tinyjson_pointer.specs.Walk.{part_at, with_part}
use Rattle.tinyjson_patch.specs.declared.operation.Operation.{Operation}
use Rattle.tinyjson_patch.specs.declared.operation.Operation.TheVariants as made
use Rattle.tinyjson_patch.specs.declared.operation.OperationError.{OperationError}
use Rattle.tinyjson_patch.specs.declared.operation.OperationError.TheVariants.{Failed, OutOfMemory}
use Rattle.tinyjson_patch.specs.declared.operation.Reason.{Reason}
use Rattle.tinyjson_patch.specs.declared.operation.Reason.TheVariants.{NoPlace, NoTarget, NoSource, WholeRemoved}
use Rattle.tinyjson_patch.specs.declared.operation.Reason.TheVariants.{IntoItself, Different}

pub data Action : Type 0 where
  add : List (List ℕ) → Tree → Action
  remove : List (List ℕ) → Action
  replace : List (List ℕ) → Tree → Action
  move : (from path : List (List ℕ)) → Action
  copy : (from path : List (List ℕ)) → Action
  test : List (List ℕ) → Tree → Action

abbrev pub action_of : Operation → Action
action_of (made.Add path v) = add (tokens_of path) (view v)
action_of (made.Remove path) = remove (tokens_of path)
action_of (made.Replace path v) = replace (tokens_of path) (view v)
action_of (made.Move from path) = move (tokens_of from) (tokens_of path)
action_of (made.Copy from path) = copy (tokens_of from) (tokens_of path)
action_of (made.Test path v) = test (tokens_of path) (view v)

-- the tree, or the reason if there is none
abbrev pub or_fail : Option Tree → Reason → Result Tree Reason
or_fail None r = Err r
or_fail (Some t) r = Ok t

abbrev pub and_then : Result Tree Reason → (Tree → Result Tree Reason) → Result Tree Reason
and_then (Err r) f = Err r
and_then (Ok t) f = f t

-- 4.1: the container of the target has to exist
abbrev pub added : List (List ℕ) → Tree → Tree → Result Tree Reason
added path u t = or_fail (with_new_part t path u) NoPlace

-- 4.2: the target has to exist, and must not be the whole
abbrev pub removed : List (List ℕ) → Tree → Result Tree Reason
removed [] t = Err WholeRemoved
removed (k ∷ ks) t = or_fail (without_part t (k ∷ ks)) NoTarget

-- 4.3: the target has to exist
abbrev pub replaced : List (List ℕ) → Tree → Tree → Result Tree Reason
replaced path u t = and_then (or_fail (part_at t path) NoTarget) (λ old. Ok (with_part t path u))

-- 4.4: to the same place
abbrev pub stayed : List (List ℕ) → Tree → Result Tree Reason
stayed from t = and_then (or_fail (part_at t from) NoSource) (λ part. Ok t)

-- 4.4, to another place: the part at `from` is removed and then added
abbrev pub taken : List (List ℕ) → List (List ℕ) → Tree → Result Tree Reason
taken from path t =
    and_then (or_fail (part_at t from) NoSource) (λ part. and_then (or_fail (without_part t from) NoSource) (added path part))

-- `from` must not be a proper prefix of the path
abbrev pub moved : List (List ℕ) → List (List ℕ) → Tree → Result Tree Reason
moved from path t =
    cond (begins_with path from) (cond (begins_with from path) (stayed from t) (Err IntoItself)) (taken from path t)

abbrev pub copy_of : List (List ℕ) → Tree → Result Tree Reason
copy_of from t = or_fail (part_at t from) NoSource

-- 4.5: the part at `from` is added
abbrev pub copied : List (List ℕ) → List (List ℕ) → Tree → Result Tree Reason
copied from path t = and_then (copy_of from t) (λ part. added path part t)

-- 4.6: the target and the value have to be equal
abbrev pub tested : List (List ℕ) → Tree → Tree → Result Tree Reason
tested path u t = and_then (or_fail (part_at t path) NoTarget) (λ part. cond (tree_eq part u) (Ok t) (Err Different))

-- the tree after the operation, or the reason why it fails
abbrev pub applied : Action → Tree → Result Tree Reason
applied (add path u) t = added path u t
applied (remove path) t = removed path t
applied (replace path u) t = replaced path u t
applied (move from path) t = moved from path t
applied (copy from path) t = copied from path t
applied (test path u) t = tested path u t

-- The result of applying an operation, and the tree after success.
abbrev pub Applies : Result Tree Reason → Result (Unit {0}) OperationError → Tree → Type 0
Applies outcome (Ok _) t = outcome ≡ Ok t
Applies outcome (Err (Failed r)) t = outcome ≡ Err r
Applies outcome (Err OutOfMemory) t = Unit {0}

-- The result of copying a part.
abbrev pub Copies : Result Tree Reason → Result JsonValue OperationError → Type 0
Copies outcome (Ok v) = outcome ≡ Ok (view v)
Copies outcome (Err (Failed r)) = outcome ≡ Err r
Copies outcome (Err OutOfMemory) = Unit {0}

abbrev pub reason_message : Reason → List ℕ
reason_message NoPlace = codes "'path' names no place for a value"
reason_message NoTarget = codes "'path' names no value"
reason_message NoSource = codes "'from' names no value"
reason_message WholeRemoved = codes "the whole value can't be removed"
reason_message IntoItself = codes "a value can't be moved into itself"
reason_message Different = codes "the value at 'path' is another one"
