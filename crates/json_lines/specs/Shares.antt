-- Laws of shares: an input that is cut after a line feed.
use Rattle.std.specs.Prelude.{◌≡◌, ℕ, List, [], ◌∷◌, ◌++◌, Option}
use Rattle.tinyjson.specs.Characters.{line_feed}
use Rattle.json_lines.specs.Lines.{lines, Fate, HaveFates, outputs_of}

-- the bytes, and a line feed at their end
abbrev pub ended : List ℕ → List ℕ
ended xs = xs ++ line_feed ∷ []

-- the lines of the whole are those of its first share and then those of the rest
abbrev pub LinesOfShares : Type 0
LinesOfShares = (xs ys : List ℕ) → lines (ended xs ++ ys) ≡ lines (ended xs) ++ lines ys

-- whatever the lines of the whole and of its shares give, what is written for the whole is what is written for the shares
abbrev pub OutputOfShares : Type 0
OutputOfShares =
    (limit max : Option ℕ) (xs ys : List ℕ) (whole first rest : List Fate) →
    HaveFates limit max (lines (ended xs ++ ys)) whole → HaveFates limit max (lines (ended xs)) first →
    HaveFates limit max (lines ys) rest →
    outputs_of whole ≡ outputs_of first ++ outputs_of rest
