-- The tree of a text after the operations of a patch (RFC 6902).
use Rattle.std.specs.Prelude.{◌≡◌, ◌⊎◌, ℕ, false, List, Some, Result, Ok, Err, Vec, encode_utf8_all}
use Rattle.std.specs.declared.alloc.Global.{Global}
use Rattle.tinyjson.specs.Access.{is_array}
use Rattle.tinyjson.specs.Text.{compact}
use Rattle.tinyjson_c.specs.Merge.{patch_depth}
use Rattle.tinyjson_c.specs.Place.{length_place}
use Rattle.tinyjson_c.specs.Stop.{IsAcceptedText, IsStopped, IsTextOf, stop_place, stop_status}
use Rattle.tinyjson_c.specs.declared.patch.Unpatched.{Unpatched}
use Rattle.tinyjson_c.specs.declared.patch.Unpatched.TheVariants as un
use Rattle.tinyjson_c.specs.declared.place.TinyjsonPlace.{TinyjsonPlace}
use Rattle.tinyjson_c.specs.declared.status.TheConstants.{BAD_PATCH, FAILED}
use Rattle.tinyjson_c.specs.declared.stop.Stop.TheVariants as stop
use Rattle.tinyjson_grammar.specs.Tree.{Tree}
use Rattle.tinyjson_patch.specs.Document.{IsMalformed, IsPatch}
use Rattle.tinyjson_patch.specs.Operation.{Action}
use Rattle.tinyjson_patch.specs.Patch.{all_applied}
use Rattle.tinyjson_patch.specs.declared.fault.Fault.{Fault}
use Rattle.tinyjson_patch.specs.declared.operation.Reason.{Reason}

-- The operations of the patch's text turn the text's tree into this one; or the one with this index can't be
-- applied, for this reason.
pub record Patches (depth : ℕ) (text patch : List ℕ) (outcome : Result Tree (ℕ × Reason)) : Type 0 where
  pub old : Tree
  pub document : Tree
  pub operations : List Action
  pub is_text : IsTextOf (Some depth) text old
  pub is_document : IsTextOf (Some (patch_depth depth)) patch document
  pub is_patch : IsPatch document operations
  pub is_outcome : all_applied 0 operations old ≡ outcome

-- the operation with this index can't be applied to the result of those before it
abbrev pub Fails : ℕ → List ℕ → List ℕ → ℕ → Type 0
Fails depth text patch n = (r : Reason) × Patches depth text patch (Err (n, r))

-- the tree is no array, and the index is 0; or its item at the index is the first that is no operation
abbrev pub IsFaulty : Tree → ℕ → Type 0
IsFaulty d n = ((is_array d ≡ false) × (n ≡ 0)) ⊎ ((f : Fault) × IsMalformed d n f × ((operations : List Action) → ¬ IsPatch d operations))

-- The text of the patch has a tree that is not a patch, and the other text has a tree.
abbrev pub IsBadPatch : ℕ → List ℕ → List ℕ → ℕ → Type 0
IsBadPatch depth text patch n =
    IsAcceptedText (Some depth) text × (d : Tree) × IsTextOf (Some (patch_depth depth)) patch d × IsFaulty d n

-- ---- for private contracts

-- why nothing is patched
abbrev pub IsUnpatched : ℕ → List ℕ → List ℕ → Unpatched → Type 0
IsUnpatched depth text patch (un.Text s) = IsStopped (Some depth) text s
IsUnpatched depth text patch (un.Patch s) = IsAcceptedText (Some depth) text × IsStopped (Some (patch_depth depth)) patch s
IsUnpatched depth text patch (un.BadPatch n) = IsBadPatch depth text patch n
IsUnpatched depth text patch (un.Failed n) = Fails depth text patch n

-- the text of the tree after the operations, or the index of the one that fails, unless memory runs out
abbrev pub IsOutcome : Result Tree (ℕ × Reason) → Result (Vec ℕ Global) Unpatched → Type 0
IsOutcome outcome (Ok v) = (u : Tree) × (outcome ≡ Ok u) × (v.items ≡ encode_utf8_all (compact u))
IsOutcome outcome (Err (un.Failed n)) = (r : Reason) × (outcome ≡ Err (n, r))
IsOutcome outcome (Err (un.Text s)) = s ≡ stop.OutOfMemory
IsOutcome outcome (Err _) = ⊥

-- the same for the operations of a document, if it is a patch
abbrev pub AppliesDocument : Tree → Tree → Result (Vec ℕ Global) Unpatched → Type 0
AppliesDocument d t (Err (un.BadPatch n)) = IsFaulty d n
AppliesDocument d t (Err (un.Text s)) = s ≡ stop.OutOfMemory
AppliesDocument d t result = (operations : List Action) × IsPatch d operations × IsOutcome (all_applied 0 operations t) result

abbrev pub unpatched_status : Unpatched → ℕ
unpatched_status (un.Text s) = stop_status s
unpatched_status (un.Patch s) = stop_status s
unpatched_status (un.BadPatch n) = BAD_PATCH
unpatched_status (un.Failed n) = FAILED

abbrev pub unpatched_place : Unpatched → TinyjsonPlace
unpatched_place (un.Text s) = stop_place 0 s
unpatched_place (un.Patch s) = stop_place 1 s
unpatched_place (un.BadPatch n) = length_place 1 n
unpatched_place (un.Failed n) = length_place 1 n
