-- Laws of prefixes: what can still become a text, what cannot, and where an error comes between the two.
use Rattle.std.specs.Prelude.{
  ◌≡◌,
  ◌↔◌,
  ℕ,
  false,
  ◌+◌,
  ◌<◌,
  ◌≤◌,
  List,
  [],
  ◌∷◌,
  ◌++◌,
  Option,
  IsTrue,
  length,
  take,
  drop,
}
use Rattle.tinyjson_grammar.specs.Characters.{is_white}
use Rattle.tinyjson_grammar.specs.Syntax.{Syntax, text, IsSpelled, IsStrict}
use Rattle.tinyjson_grammar.specs.Grammar.{IsLoose, IsAccepted}
use Rattle.tinyjson_grammar.specs.Prefix.{IsViable, IsLooselyViable, IsErrorFree}
use Rattle.tinyjson_grammar.specs.Refusal.{begins_value, begins_growth, AreLate, IsLiteral, IsRefusal, RefusalSays}
use Rattle.tinyjson_grammar.specs.declared.error.JsonParseErrorKind.{JsonParseErrorKind}
use Rattle.tinyjson_grammar.specs.declared.error.JsonParseErrorKind.TheVariants.{OutOfMemory}

-- an accepted list is one of the loose grammar
abbrev pub AcceptedIsLoose : Type 0
AcceptedIsLoose = (limit : Option ℕ) (xs : List ℕ) → IsAccepted limit xs → IsLoose limit xs

-- the empty list is viable in both grammars
abbrev pub EmptyIsViable : Type 0
EmptyIsViable = (limit : Option ℕ) → IsViable (IsAccepted limit) [] × IsLooselyViable limit []

-- what is viable in the grammar has no error so far
abbrev pub ViableIsErrorFree : Type 0
ViableIsErrorFree = (limit : Option ℕ) (xs : List ℕ) → IsViable (IsAccepted limit) xs → IsErrorFree limit xs

-- what has no error so far is viable in the loose grammar
abbrev pub ErrorFreeIsLooselyViable : Type 0
ErrorFreeIsLooselyViable = (limit : Option ℕ) (xs : List ℕ) → IsErrorFree limit xs → IsLooselyViable limit xs

-- what no list completes, in either grammar, or what has an error, stays so with more characters after it
abbrev pub UnviableStaysSo : Type 0
UnviableStaysSo =
    (limit : Option ℕ) (xs ys : List ℕ) →
    (¬ IsViable (IsAccepted limit) xs → ¬ IsViable (IsAccepted limit) (xs ++ ys))
    × (¬ IsLooselyViable limit xs → ¬ IsLooselyViable limit (xs ++ ys))
    × (¬ IsErrorFree limit xs → ¬ IsErrorFree limit (xs ++ ys))

-- a value of the grammar that begins with c
abbrev pub BeginsStrictly : ℕ → Type 0
BeginsStrictly c = (s : Syntax) × (more : List ℕ) × IsSpelled s × IsStrict s × (text s ≡ c ∷ more)

-- where `begins_value` says so, a character begins a value of the grammar, and where not, none of the loose grammar
abbrev pub ValuesBegin : Type 0
ValuesBegin =
    (c : ℕ) → (IsTrue (begins_value c) → BeginsStrictly c)
    × ((s : Syntax) (more : List ℕ) → IsSpelled s → text s ≡ c ∷ more → IsTrue (begins_value c))

-- where `begins_growth` says so, a character begins a value of the grammar and no literal, and where not, at most a literal
abbrev pub GrowthBegins : Type 0
GrowthBegins =
    (c : ℕ) → (IsTrue (begins_growth c) → BeginsStrictly c)
    × ((s : Syntax) (more : List ℕ) → IsSpelled s → text s ≡ c ∷ more →
    IsTrue (begins_growth c) ↔ ¬ IsLiteral (text s))

-- a list whose first character is not white space and begins no value is not viable, in the loose grammar too
abbrev pub UnviableAtFirst : Type 0
UnviableAtFirst =
    (limit : Option ℕ) (c : ℕ) (xs : List ℕ) →
    is_white c ≡ false → begins_value c ≡ false → ¬ IsLooselyViable limit (c ∷ xs)

-- ---- shortest prefixes

-- n is the length of the shortest prefix of xs without P
pub record IsShortest (P : List ℕ → Type 0) (xs : List ℕ) (n : ℕ) : Type 0 where
  pub within : n ≤ length xs
  pub fails : ¬ P (take n xs)
  pub least : (k : ℕ) → k < n → ¬ ¬ P (take k xs)

-- The shortest prefix that is not viable is no longer than the shortest with an error, and that is no longer than the shortest
-- that is not viable in the loose grammar. Where there is a later one of these, no earlier one is missing.
abbrev pub ShortestInOrder : Type 0
ShortestInOrder =
    (limit : Option ℕ) (xs : List ℕ) →
    ((d m : ℕ) → IsShortest (IsViable (IsAccepted limit)) xs d → IsShortest (IsErrorFree limit) xs m → d ≤ m)
    × ((m l : ℕ) → IsShortest (IsErrorFree limit) xs m → IsShortest (IsLooselyViable limit) xs l → m ≤ l)
    × ((m : ℕ) → IsShortest (IsErrorFree limit) xs m →
    ¬ ¬ ((d : ℕ) × IsShortest (IsViable (IsAccepted limit)) xs d))
    × ((l : ℕ) → IsShortest (IsLooselyViable limit) xs l →
    ¬ ¬ ((m : ℕ) × IsShortest (IsErrorFree limit) xs m))

-- An error for another cause than memory has consumed at least all but the last character of the shortest prefix with an error,
-- and so of the shortest prefix that is not viable.
abbrev pub RefusedNotTooSoon : Type 0
RefusedNotTooSoon =
    (limit : Option ℕ) (k : JsonParseErrorKind) (used rest : List ℕ) → IsRefusal limit k used rest →
    ((m : ℕ) → IsShortest (IsErrorFree limit) (used ++ rest) m → m ≤ length used + 1)
    × ((d : ℕ) → IsShortest (IsViable (IsAccepted limit)) (used ++ rest) d → d ≤ length used + 1)

-- where no prefix has an error, an error for another cause than memory has consumed the whole list
abbrev pub RefusedAtEnd : Type 0
RefusedAtEnd =
    (limit : Option ℕ) (k : JsonParseErrorKind) (used rest : List ℕ) → IsRefusal limit k used rest →
    ((n : ℕ) → n ≤ length (used ++ rest) → ¬ ¬ IsErrorFree limit (take n (used ++ rest))) → rest ≡ []

-- an error, also one of memory, has consumed no more than the shortest prefix that is not viable in the loose grammar
abbrev pub RefusedNotTooLate : Type 0
RefusedNotTooLate =
    (limit : Option ℕ) (k : JsonParseErrorKind) (used rest : List ℕ) → RefusalSays limit k used rest →
    (l : ℕ) → IsShortest (IsLooselyViable limit) (used ++ rest) l → length used ≤ l

-- late characters, and then at most one more
abbrev pub IsLateButOne : List ℕ → Type 0
IsLateButOne xs = (late last : List ℕ) × (xs ≡ late ++ last) × AreLate late × (length last ≤ 1)

-- Out of memory has consumed less than the shortest prefix that is not viable in the loose grammar. Where the shortest prefix with
-- an error has m + 1 characters, what was consumed after m of them is late characters, and then at most one more.
abbrev pub InterruptedNotTooLate : Type 0
InterruptedNotTooLate =
    (limit : Option ℕ) (used rest : List ℕ) → RefusalSays limit OutOfMemory used rest →
    ((l : ℕ) → IsShortest (IsLooselyViable limit) (used ++ rest) l → length used < l)
    × ((m : ℕ) → IsShortest (IsErrorFree limit) (used ++ rest) (m + 1) → IsLateButOne (drop m used))
