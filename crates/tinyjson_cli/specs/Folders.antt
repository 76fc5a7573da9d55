-- The names of files below a folder.
use Rattle.std.specs.List.{ends_with}
use Rattle.std.specs.Prelude.{ℕ, Bool, true, false, ◌||◌, nat_eq, List, [], ◌∷◌, ◌++◌, cond, codes}

abbrev pub is_empty : List ℕ → Bool
is_empty [] = true
is_empty (c ∷ cs) = false

-- no `/` is put between them
abbrev pub is_joint : List ℕ → List ℕ → Bool
is_joint folder name = is_empty folder || (is_empty name || ends_with nat_eq folder (codes "/"))

-- the name of a file below a folder: both, with one `/` between them where both have letters
abbrev pub join_path : List ℕ → List ℕ → List ℕ
join_path folder name = cond (is_joint folder name) (folder ++ name) (folder ++ (codes "/" ++ name))
