-- Laws of objects: the last pair with a key counts, and members are determined by what is found in them.
use Rattle.std.specs.Prelude.{◌≡◌, ◌≢◌, ◌↔◌, ℕ, List, [], ◌∷◌, ◌++◌, Some, None}
use Rattle.std.specs.List.{AllByRecursion}
use Rattle.tinyjson_grammar.specs.Tree as tree
use Rattle.tinyjson_grammar.specs.Tree.{Tree, Members, key_of, find}
use Rattle.tinyjson_grammar.specs.Soundness.{IsSorted}
use Rattle.tinyjson_grammar.specs.Syntax.{Pairs, object, last_pair, pair, tree_of}

-- the pairs of an object, each as its key and its tree
abbrev pub entries_of : Pairs → List (List ℕ × Tree)
entries_of (last_pair a key b c s d) = (key_of (tree_of key), tree_of s) ∷ []
entries_of (pair a key b c s d ps) = (key_of (tree_of key), tree_of s) ∷ entries_of ps

-- none of the entries has the key
abbrev pub HasNone : List ℕ → List (List ℕ × Tree) → Type 0
HasNone k es = AllByRecursion (λ (e : List ℕ × Tree). e.0 ≢ k) es

-- the last of the entries that have the key has the tree
abbrev pub IsLast : List ℕ → Tree → List (List ℕ × Tree) → Type 0
IsLast k t es = (front back : List (List ℕ × Tree)) × (es ≡ front ++ (k, t) ∷ back) × HasNone k back

-- an object has a key exactly if some pair of its text has it, with the tree of the last such pair
abbrev pub LastPairStays : Type 0
LastPairStays =
    (ps : Pairs) (ms : Members) → tree_of (object ps) ≡ tree.object ms → (k : List ℕ) →
    ((t : Tree) → (find k ms ≡ Some t) ↔ IsLast k t (entries_of ps)) × ((find k ms ≡ None) ↔ HasNone k (entries_of ps))

-- two maps in which the same is found at every key are one
abbrev pub MembersFromFind : Type 0
MembersFromFind =
    (ms ns : Members) → IsSorted ms → IsSorted ns → ((k : List ℕ) → find k ms ≡ find k ns) → ms ≡ ns
