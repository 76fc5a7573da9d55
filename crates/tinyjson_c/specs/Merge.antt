-- The tree of a text with that of a patch merged into it (RFC 7396).
use Rattle.std.specs.Prelude.{◌≡◌, ℕ, List, Some, min}
use Rattle.tinyjson_c.specs.Stop.{IsAcceptedText, IsStopped, IsTextOf, stop_place, stop_status}
use Rattle.tinyjson_c.specs.declared.merge.NoMerge.{NoMerge}
use Rattle.tinyjson_c.specs.declared.merge.NoMerge.TheVariants as none
use Rattle.tinyjson_c.specs.declared.place.TinyjsonPlace.{TinyjsonPlace}
use Rattle.tinyjson_grammar.specs.Tree.{Tree}
use Rattle.tinyjson_patch.specs.Merge.{merge_patch}

-- how many containers may be nested in a patch, in a call with this limit
abbrev pub patch_depth : ℕ → ℕ
patch_depth depth = min depth 1000

-- The target's text with the patch's merged into it has this tree.
pub record Merges (depth : ℕ) (target patch : List ℕ) (merged : Tree) : Type 0 where
  pub old : Tree
  pub change : Tree
  pub is_target : IsTextOf (Some depth) target old
  pub is_patch : IsTextOf (Some (patch_depth depth)) patch change
  pub is_merged : merged ≡ merge_patch old change

-- ---- for private contracts

-- why nothing is merged
abbrev pub IsNoMerge : ℕ → List ℕ → List ℕ → NoMerge → Type 0
IsNoMerge depth target patch (none.Target s) = IsStopped (Some depth) target s
IsNoMerge depth target patch (none.Patch s) = IsAcceptedText (Some depth) target × IsStopped (Some (patch_depth depth)) patch s

abbrev pub no_merge_status : NoMerge → ℕ
no_merge_status (none.Target s) = stop_status s
no_merge_status (none.Patch s) = stop_status s

abbrev pub no_merge_place : NoMerge → TinyjsonPlace
no_merge_place (none.Target s) = stop_place 0 s
no_merge_place (none.Patch s) = stop_place 1 s
