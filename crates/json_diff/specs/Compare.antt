-- What is printed, given the old tree and a new one.
use Rattle.std.specs.Prelude.{◌≡◌, ℕ, Bool, true, false, List, ◌++◌, Some, Result, Ok, Err, codes, encode_utf8_all, string_bytes}
use Rattle.std.specs.Str.{chars}
use Rattle.tinyjson.specs.Soundness.{IsTree}
use Rattle.tinyjson.specs.Tree.{Tree, null}
use Rattle.tinyjson_cli.specs.Layout.{laid_out}
use Rattle.tinyjson_cli.specs.Shown.{shown}
use Rattle.tinyjson_cli.specs.declared.texts.NoAnswer.{NoAnswer}
use Rattle.tinyjson_cli.specs.declared.texts.NoAnswer.TheVariants.{No}
use Rattle.tinyjson_diff.specs.Merging.{Leads, HasChangesAlone}
use Rattle.tinyjson_diff.specs.Patching.{IsPatchBetween}
use Rattle.tinyjson_pointer.specs.Text.{pointer_text}
use Rattle.tinyjson_pointer.specs.Walk.{part_at}

-- with the text of the pointer of these tokens, whose controls are shown by their code points
abbrev pub no_patch_message : List (List ℕ) → List ℕ
no_patch_message ks =
    codes "no merge patch sets a member to null: " ++ shown (chars (encode_utf8_all (pointer_text ks)))

-- The text of the merge patch from t to u; or there is none, and the place of a null in u.
abbrev pub GivesMergePatch : Bool → Tree → Tree → Result (List ℕ) NoAnswer → Type 0
GivesMergePatch is_indented t u (Ok bytes) =
    (p : Tree) × Leads t u p × HasChangesAlone t u p × (bytes ≡ laid_out is_indented p)
GivesMergePatch is_indented t u (Err (No w)) =
    (ks : List (List ℕ)) × (part_at u ks ≡ Some null) × ((p : Tree) → IsTree p → ¬ Leads t u p)
    × (string_bytes w ≡ no_patch_message ks)
GivesMergePatch is_indented t u (Err _) = ⊥

-- The text of the patch from t to u.
abbrev pub GivesPatch : Bool → Tree → Tree → Result (List ℕ) NoAnswer → Type 0
GivesPatch is_indented t u (Ok bytes) = (p : Tree) × IsPatchBetween t u p × (bytes ≡ laid_out is_indented p)
GivesPatch is_indented t u (Err _) = ⊥

-- one or the other
abbrev pub GivesPatchOf : (is_merge is_indented : Bool) → Tree → Tree → Result (List ℕ) NoAnswer → Type 0
GivesPatchOf true is_indented t u f = GivesMergePatch is_indented t u f
GivesPatchOf false is_indented t u f = GivesPatch is_indented t u f
