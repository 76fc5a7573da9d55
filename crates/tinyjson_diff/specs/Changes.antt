-- A member of a merge patch, given what the old and the new object have at its key; for private contracts.
use Rattle.std.specs.Prelude.{◌≡◌, ℕ, List, ◌∷◌, Option, Some, None, Result, Ok, Err, option_map, unwrap_or}
use Rattle.tinyjson.specs.Soundness.{IsTree}
use Rattle.tinyjson.specs.Tree.{Tree, null, object, Members, no_members, find, put}
use Rattle.tinyjson.specs.View.{view}
use Rattle.tinyjson.specs.declared.value.JsonValue.{JsonValue}
use Rattle.tinyjson_document.specs.Parts.{members_in}
use Rattle.tinyjson_patch.specs.Merge.{merged_at}
use Rattle.tinyjson_pointer.specs.Tokens.{tokens_of}
use Rattle.tinyjson_pointer.specs.Walk.{part_at}
use Rattle.tinyjson_view.specs.Views.{tree_of}
use Rattle.tinyjson_view.specs.declared.view.ValueView.{ValueView}
use Rattle.tinyjson_diff.specs.Merging.{HasChangesAlone, Leads}
use Rattle.tinyjson_diff.specs.declared.merge.NoMergePatch.{NoMergePatch}
use Rattle.tinyjson_diff.specs.declared.merge.NoMergePatch.TheVariants.{Null, OutOfMemory}

-- the members of an object
abbrev pub object_members : Option Tree → Option Members
object_members (Some (object ms)) = Some ms
object_members _ = None

-- those of a value, if there is one
abbrev pub members_had : Option ValueView → Members
members_had None = no_members
members_had (Some v) = members_in (tree_of v)

-- the member of the patch leads from o to n, and is missing exactly if they are equal
abbrev pub IsChange : Option Tree → Option Tree → Option Tree → Type 0
IsChange o n None = o ≡ n
IsChange o n (Some p) =
    ¬ (o ≡ n) × (merged_at o (Some p) ≡ n) × HasChangesAlone (unwrap_or o null) (unwrap_or n null) p

abbrev pub IsTreeOrNone : Option Tree → Type 0
IsTreeOrNone None = Unit {0}
IsTreeOrNone (Some p) = IsTree p

-- no member of a patch leads to u
abbrev pub IsUnreached : Option Tree → Tree → Type 0
IsUnreached o u = (p : Option Tree) → IsTreeOrNone p → ¬ (merged_at o p ≡ Some u)

abbrev pub Changes : Option Tree → Tree → Result (Option JsonValue) NoMergePatch → Type 0
Changes o u (Ok change) = IsChange o (Some u) (option_map view change)
Changes o u (Err (Null place)) = (part_at u (tokens_of place) ≡ Some null) × IsUnreached o u
Changes o u (Err OutOfMemory) = Unit {0}

-- what the patch has at a key that the new object has not
abbrev pub removal : Option Tree → Option Tree → Option Tree
removal (Some t) None = Some null
removal _ _ = None

abbrev pub AreRemovals : Members → Members → Members → Type 0
AreRemovals os ns ps = (q : List ℕ) → find q ps ≡ removal (find q os) (find q ns)

-- with the member of a patch, if there is one
abbrev pub with_change : List ℕ → Option Tree → Members → Members
with_change k None ps = ps
with_change k (Some p) ps = put k p ps

-- the patch leads from t to itself
abbrev pub KeepsAll : Tree → Tree → Type 0
KeepsAll t p = Leads t t p × HasChangesAlone t t p

-- the error of a member, and that of its object
abbrev pub IsBelow : List ℕ → NoMergePatch → NoMergePatch → Type 0
IsBelow k (Null place) (Null whole) = tokens_of whole ≡ k ∷ tokens_of place
IsBelow k OutOfMemory (Null whole) = ⊥
IsBelow k _ OutOfMemory = Unit {0}
