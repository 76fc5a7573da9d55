-- How many values the copies of a patch copy.
use Rattle.std.specs.Prelude.{ℕ, ◌+◌, ◌≤◌, ◌<◌, List, [], ◌∷◌, ◌++◌, Result, Ok, Err, option_map, unwrap_or, codes}
use Rattle.tinyjson_grammar.specs.Tree.{Tree, array, object, Items, no_items, item, Members, no_members, member}
use Rattle.tinyjson_patch.specs.Message.{numbered_message}
use Rattle.tinyjson_patch.specs.Operation.{Action, copy, applied, reason_message}
use Rattle.tinyjson_patch.specs.declared.operation.Reason.{Reason}
use Rattle.tinyjson_pointer.specs.Walk.{part_at}
use Rattle.tinyjson_patch.specs.declared.edit.error.EditError.{EditError}
use Rattle.tinyjson_patch.specs.declared.edit.error.EditError.TheVariants.{Failed, TooMuch, OutOfMemory}

abbrev mutual
  -- how many values the tree has: itself, and all that are nested in it
  pub value_count : Tree → ℕ
  value_count (array ts) = 1 + item_values ts
  value_count (object ms) = 1 + member_values ms
  value_count _ = 1

  pub item_values : Items → ℕ
  item_values no_items = 0
  item_values (item t ts) = value_count t + item_values ts

  pub member_values : Members → ℕ
  member_values no_members = 0
  member_values (member k t ms) = value_count t + member_values ms

-- how many values the operation copies of the tree
abbrev pub copies : Action → Tree → ℕ
copies (copy from path) t = unwrap_or (option_map value_count (part_at t from)) 0
copies _ t = 0

-- those of other operations, on the tree after one that can be applied
abbrev pub copies_after : Result Tree Reason → (Tree → ℕ) → ℕ
copies_after (Ok t) others = others t
copies_after (Err r) others = 0

-- how many the operations copy, up to the first that can't be applied
abbrev pub all_copies : List Action → Tree → ℕ
all_copies [] t = 0
all_copies (a ∷ rest) t = copies a t + copies_after (applied a t) (λ u. all_copies rest u)

-- The result of a patch that copies this many values, where it may copy `most`.
abbrev pub IsWithin : {T : Type 0} → ℕ → ℕ → Result T EditError → Type 0
IsWithin most n (Ok x) = n ≤ most
IsWithin most n (Err (Failed i r)) = n ≤ most
IsWithin most n (Err TooMuch) = most < n
IsWithin most n (Err OutOfMemory) = Unit {0}

abbrev pub edit_error_message : EditError → List ℕ
edit_error_message (Failed n r) = numbered_message n (reason_message r)
edit_error_message TooMuch = codes "the patch copies too many values"
edit_error_message OutOfMemory = codes "out of memory"
