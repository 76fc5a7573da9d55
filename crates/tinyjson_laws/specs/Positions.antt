-- Laws of positions.
use Rattle.std.specs.Prelude.{◌≡◌, ℕ, List, ◌++◌}
use Rattle.tinyjson_grammar.specs.Position.{Position, advance}

-- what is consumed in two parts leads where the whole leads
abbrev pub AdvanceComposes : Type 0
AdvanceComposes = (p : Position) (xs ys : List ℕ) → advance (advance p xs) ys ≡ advance p (xs ++ ys)
