-- Laws of reading: texts and the trees that they have.
use Rattle.std.specs.Prelude.{◌≡◌, ◌≤◌, ◌↔◌, ℕ, List, Option, Some, None}
use Rattle.std.specs.Int.{w32, w64}
use Rattle.tinyjson_grammar.specs.Tree.{Tree}
use Rattle.tinyjson_grammar.specs.Grammar.{IsText, IsTextAt}
use Rattle.tinyjson_grammar.specs.Soundness.{IsTree}
use Rattle.tinyjson_grammar.specs.Text.{compact}

-- a list has at most one tree
abbrev pub OneTree : Type 0
OneTree = (limit : Option ℕ) (xs : List ℕ) (t u : Tree) → IsText limit xs t → IsText limit xs u → t ≡ u

-- what a text has is a sound tree
abbrev pub TextsAreSound : Type 0
TextsAreSound = (limit : Option ℕ) (xs : List ℕ) (t : Tree) → IsText limit xs t → IsTree t

-- a tree is sound exactly if some text has it
abbrev pub TreesHaveTexts : Type 0
TreesHaveTexts = (t : Tree) → IsTree t ↔ ((xs : List ℕ) × IsText None xs t)

-- what is a text under a limit on nesting is one under every greater limit, and under none
abbrev pub WiderLimit : Type 0
WiderLimit = (m n : ℕ) (xs : List ℕ) (t : Tree) → m ≤ n → IsText (Some m) xs t → IsText (Some n) xs t × IsText None xs t

-- What is a text with the powers of ten of `i32` is one with those of `i64`, with the same tree. Its compact text is the same too:
-- any tree that the wider range gives has it, and it is a text with either range.
abbrev pub WiderRange : Type 0
WiderRange =
    (limit : Option ℕ) (xs : List ℕ) (t : Tree) → IsTextAt w32 limit xs t →
    IsTextAt w64 limit xs t × IsTextAt w32 limit (compact t) t × ((u : Tree) → IsTextAt w64 limit xs u → compact u ≡ compact t)
