-- The merge patch (RFC 7396) that leads from one tree to another.
use Rattle.std.specs.Prelude.{◌≡◌, ◌++◌, ℕ, List, Some, Result, Ok, Err, unwrap_or, codes, encode_utf8_all}
use Rattle.tinyjson.specs.Soundness.{IsTree}
use Rattle.tinyjson.specs.Tree.{Tree, null, object, Members, no_members, member, find}
use Rattle.tinyjson.specs.View.{view}
use Rattle.tinyjson.specs.declared.value.JsonValue.{JsonValue}
use Rattle.tinyjson_patch.specs.Merge.{members_of, merge_patch}
use Rattle.tinyjson_pointer.specs.Text.{pointer_text}
use Rattle.tinyjson_pointer.specs.Tokens.{tokens_of}
use Rattle.tinyjson_pointer.specs.Walk.{part_at}
use Rattle.tinyjson_diff.specs.declared.merge.NoMergePatch.{NoMergePatch}
use Rattle.tinyjson_diff.specs.declared.merge.NoMergePatch.TheVariants.{Null, OutOfMemory}

abbrev mutual
  -- p, a patch from t to u, has only what differs; a member that is missing counts as null
  pub HasChangesAlone : Tree → Tree → Tree → Type 0
  HasChangesAlone t u (object ps) = AreChanges (members_of t) (members_of u) ps
  HasChangesAlone t u p = Unit {0}

  -- each member is at a key at which the objects differ, and has only what differs there
  pub AreChanges : Members → Members → Members → Type 0
  AreChanges os ns no_members = Unit {0}
  AreChanges os ns (member k p ps) =
      ¬ (find k os ≡ find k ns) × HasChangesAlone (unwrap_or (find k os) null) (unwrap_or (find k ns) null) p
      × AreChanges os ns ps

-- merged into t, the patch gives u
abbrev pub Leads : Tree → Tree → Tree → Type 0
Leads t u p = merge_patch t p ≡ u

-- The patch from t to u; or there is none, and the part of u at the place is null.
abbrev pub GivesMergePatch : Tree → Tree → Result JsonValue NoMergePatch → Type 0
GivesMergePatch t u (Ok p) = Leads t u (view p) × HasChangesAlone t u (view p)
GivesMergePatch t u (Err (Null place)) =
    (part_at u (tokens_of place) ≡ Some null) × ((p : Tree) → IsTree p → ¬ Leads t u p)
GivesMergePatch t u (Err OutOfMemory) = Unit {0}

-- the message of an error
abbrev pub no_merge_patch_message : NoMergePatch → List ℕ
no_merge_patch_message (Null place) =
    codes "no merge patch sets a member to null: " ++ encode_utf8_all (pointer_text (tokens_of place))
no_merge_patch_message OutOfMemory = codes "out of memory"
