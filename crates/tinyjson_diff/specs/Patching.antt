-- The JSON Patch (RFC 6902) that leads from one tree to another.
use Rattle.std.specs.Prelude.{◌≡◌, ◌⊎◌, ℕ, List, [], ◌∷◌, Option, Some, None, Ok, length}
use Rattle.tinyjson.specs.Tree.{Tree, array, object}
use Rattle.tinyjson_patch.specs.Document.{IsPatch, token_limit}
use Rattle.tinyjson_patch.specs.Operation.{Action, add, remove, replace, move, copy, test}
use Rattle.tinyjson_patch.specs.Patch.{all_applied}
use Rattle.tinyjson_pointer.specs.Walk.{part_at}

abbrev pub path_of : Action → List (List ℕ)
path_of (add path u) = path
path_of (remove path) = path
path_of (replace path u) = path
path_of (move from path) = path
path_of (copy from path) = path
path_of (test path u) = path

-- both are arrays, or both are objects
abbrev pub AreLikeContainers : Option Tree → Option Tree → Type 0
AreLikeContainers (Some (array ts)) (Some (array us)) = Unit {0}
AreLikeContainers (Some (object ms)) (Some (object ns)) = Unit {0}
AreLikeContainers _ _ = ⊥

-- The operation adds what u has alone, removes what t has alone, or replaces what differs by what u has. It replaces no
-- array by an array, and no object by an object, but where the path has as many tokens as the limit.
abbrev pub IsDifference : ℕ → Tree → Tree → Action → Type 0
IsDifference limit t u (add path v) = (part_at t path ≡ None) × (part_at u path ≡ Some v)
IsDifference limit t u (remove path) = ¬ (part_at t path ≡ None) × (part_at u path ≡ None)
IsDifference limit t u (replace path v) =
    ¬ (part_at t path ≡ part_at u path) × (part_at u path ≡ Some v)
    × ((length path ≡ limit) ⊎ ¬ AreLikeContainers (part_at t path) (part_at u path))
IsDifference limit t u _ = ⊥

abbrev pub AreDifferences : ℕ → Tree → Tree → List Action → Type 0
AreDifferences limit t u [] = Unit {0}
AreDifferences limit t u (a ∷ rest) = IsDifference limit t u a × AreDifferences limit t u rest

-- none of the operations is at the place
abbrev pub AreElsewhere : List (List ℕ) → List Action → Type 0
AreElsewhere path [] = Unit {0}
AreElsewhere path (a ∷ rest) = ¬ (path ≡ path_of a) × AreElsewhere path rest

-- no two operations are at one place
abbrev pub AreApart : List Action → Type 0
AreApart [] = Unit {0}
AreApart (a ∷ rest) = AreElsewhere (path_of a) rest × AreApart rest

-- The document is a patch that makes u of t. It has at most one operation for each place where they differ.
abbrev pub IsPatchBetween : Tree → Tree → Tree → Type 0
IsPatchBetween t u p =
    (actions : List Action) × IsPatch p actions × (all_applied 0 actions t ≡ Ok u)
    × AreDifferences token_limit t u actions × AreApart actions
