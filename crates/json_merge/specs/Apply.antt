-- What is printed, given patches and a value.
use Rattle.std.specs.Prelude.{◌≡◌, ℕ, Bool, List, [], ◌∷◌, Result, Ok, Err}
use Rattle.tinyjson.specs.Tree.{Tree}
use Rattle.tinyjson_cli.specs.Layout.{laid_out}
use Rattle.tinyjson_cli.specs.declared.texts.NoAnswer.{NoAnswer}
use Rattle.tinyjson_patch.specs.Merge.{merge_patch}

-- the tree with the patches applied, each to the result of the one before
abbrev pub all_merged : Tree → List Tree → Tree
all_merged t [] = t
all_merged t (p ∷ ps) = all_merged (merge_patch t p) ps

-- the text of the tree with the patches applied
abbrev pub GivesMerged : Bool → List Tree → Tree → Result (List ℕ) NoAnswer → Type 0
GivesMerged is_indented ps t (Ok bytes) = bytes ≡ laid_out is_indented (all_merged t ps)
GivesMerged is_indented ps t (Err _) = ⊥
