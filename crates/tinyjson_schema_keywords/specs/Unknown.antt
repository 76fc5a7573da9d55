-- The names in a schema that are not keywords.
use Rattle.std.specs.BTreeSet as sorted
use Rattle.std.specs.BTreeSet.{BTreeSet}
use Rattle.std.specs.Global.{Global}
use Rattle.std.specs.List.{list_any}
use Rattle.std.specs.Prelude.{◌≡◌, ℕ, Bool, ◌||◌, List, [], ◌∷◌, ◌++◌, cond, is_some, String}
use Rattle.std.specs.Str.{bytes_eq}
use Rattle.tinyjson.specs.Tree.{Tree}
use Rattle.tinyjson_schema_keywords.specs.Subschemas.{InSchema, schema_members}

-- the member's name, unless it is that of a keyword
abbrev pub word_of : InSchema → List (List ℕ)
word_of m = cond (is_some m.2) [] (m.1 ∷ [])

abbrev pub words_among : List InSchema → List (List ℕ)
words_among [] = []
words_among (m ∷ ms) = word_of m ++ words_among ms

-- the names, in UTF-8, in a schema and its subschemas
abbrev pub unknown_words : Tree → List (List ℕ)
unknown_words t = words_among (schema_members t)

abbrev pub is_one_of : List (List ℕ) → List ℕ → Bool
is_one_of ks k = list_any (λ l. bytes_eq l k) ks

-- The set has exactly these names.
abbrev pub AreWords : List (List ℕ) → BTreeSet (String Global) → Type 0
AreWords ks words = (k : List ℕ) → sorted.contains_text words k ≡ is_one_of ks k

-- These names are added to the set.
abbrev pub Gathers : List (List ℕ) → BTreeSet (String Global) → BTreeSet (String Global) → Type 0
Gathers ks old new = (k : List ℕ) → sorted.contains_text new k ≡ (is_one_of ks k || sorted.contains_text old k)
