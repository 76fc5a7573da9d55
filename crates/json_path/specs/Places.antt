-- What contracts see of a set of places. For private contracts.
use Rattle.std.specs.Prelude.{◌≡◌, ◌≤◌, ℕ, Bool, true, List, length}
use Rattle.std.specs.HashSet.{contains_text}
use Rattle.tinyjson_path.specs.Nodes.{Step}
use Rattle.json_path.specs.Without.{path_bytes}
use Rattle.json_path.specs.declared.places.Places.{Places}

-- whether the place is one of them
abbrev pub has_path : Places → List Step → Bool
has_path p path = contains_text p.paths (path_bytes path)

-- no path is longer than the bound that is kept
abbrev pub IsBounded : Places → Type 0
IsBounded p = (bs : List ℕ) → contains_text p.paths bs ≡ true → length bs ≤ p.longest
