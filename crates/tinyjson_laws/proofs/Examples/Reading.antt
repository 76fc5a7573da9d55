-- How an example is computed: the machine is run, and the theorem turns its outcome into the grammar's words.
use Rattle.std.proofs.Common.{◌≡◌, ℕ, ℤ, Bool, true, false, List, [], ◌∷◌, ◌++◌, Option, pos}
use Rattle.std.specs.Str.{all_scalars}
use Rattle.tinyjson_grammar.specs.Grammar.{IsText}
use Rattle.tinyjson_grammar.specs.Machine.{strictly, awaited, accepted, refused, run}
use Rattle.tinyjson_grammar.specs.Refusal.{IsRefusal}
use Rattle.tinyjson_grammar.specs.Tree as tree
use Rattle.tinyjson_grammar.specs.Tree.{Tree, Members, no_members, member, items_of}
use Rattle.tinyjson_grammar.specs.declared.error.JsonParseErrorKind.{JsonParseErrorKind}
use Rattle.tinyjson.proofs.Callers.{all_are_scalars}
use Rattle.tinyjson_grammar.proofs.Callers.{accepts, refuses}

-- the characters are a text of the tree
pub text_of : {limit : Option ℕ} {xs : List ℕ} {t : Tree} →
    all_scalars xs ≡ true → run (strictly limit) [] awaited xs ≡ accepted t → IsText limit xs t
text_of {limit} {xs} {t} scalars e = (accepts limit xs (all_are_scalars xs scalars) t).0 e

-- they are refused so
pub refusal_of : {limit : Option ℕ} {k : JsonParseErrorKind} {used rest : List ℕ} →
    all_scalars (used ++ rest) ≡ true → run (strictly limit) [] awaited (used ++ rest) ≡ refused k rest →
    IsRefusal limit k used rest
refusal_of {limit} {k} {used} {rest} scalars e = refuses limit used rest (all_are_scalars (used ++ rest) scalars) k e

-- each line with a line feed after it
abbrev pub lines : List (List ℕ) → List ℕ
lines [] = []
lines (l ∷ ls) = l ++ 10 ∷ lines ls

-- ---- trees

abbrev pub decimal : Bool → List ℕ → ℤ → Tree
decimal negative ds e = tree.number (record { negative = negative; digits = ds; power = e })

-- a whole number that ends with no zero
abbrev pub whole : List ℕ → Tree
whole ds = decimal false ds (pos 0)

abbrev pub zero : Tree
zero = whole []

abbrev pub array : List Tree → Tree
array ts = tree.array (items_of ts)

abbrev pub members : List (List ℕ × Tree) → Members
members [] = no_members
members (e ∷ es) = member e.0 e.1 (members es)

-- an object with these members, whose keys rise
abbrev pub object : List (List ℕ × Tree) → Tree
object es = tree.object (members es)
