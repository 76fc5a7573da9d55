-- Laws of writing: what is written of a tree reads back.
use Rattle.std.specs.Prelude.{◌≡◌, ◌≤◌, ◌↔◌, ℕ, List, Option, Some, None, IsTrue, IsUtf8, encode_utf8_all}
use Rattle.std.specs.Str.{all_scalars}
use Rattle.tinyjson_grammar.specs.Tree.{Tree, tree_depth}
use Rattle.tinyjson_grammar.specs.Syntax.{AreWhite}
use Rattle.tinyjson_grammar.specs.Grammar.{IsText}
use Rattle.tinyjson_grammar.specs.Soundness.{IsTree}
use Rattle.tinyjson_grammar.specs.Text.{compact, indented}

-- the compact text of a tree is a text of that tree
abbrev pub CompactReadsBack : Type 0
CompactReadsBack = (t : Tree) → IsTree t → IsText None (compact t) t

-- so is its indented text, where the indent is white space
abbrev pub IndentedReadsBack : Type 0
IndentedReadsBack = (t : Tree) (indent : List ℕ) → AreWhite indent → IsTree t → IsText None (indented t indent 0) t

-- two trees have one compact text exactly if they are one
abbrev pub SameCompact : Type 0
SameCompact = (t u : Tree) → IsTree t → IsTree u → (compact t ≡ compact u) ↔ (t ≡ u)

-- two trees have one indented text exactly if they are one
abbrev pub SameIndented : Type 0
SameIndented =
    (t u : Tree) (indent : List ℕ) → AreWhite indent → IsTree t → IsTree u →
    (indented t indent 0 ≡ indented u indent 0) ↔ (t ≡ u)

-- two texts have one compact text of their trees exactly if they have one tree
abbrev pub SameNormal : Type 0
SameNormal =
    (limit other : Option ℕ) (xs ys : List ℕ) (t u : Tree) → IsText limit xs t → IsText other ys u →
    (compact t ≡ compact u) ↔ (t ≡ u)

-- reading and writing twice gives the text of once
abbrev pub WrittenOnce : Type 0
WrittenOnce =
    (limit : Option ℕ) (xs : List ℕ) (t : Tree) → IsText limit xs t →
    IsText limit (compact t) t × ((u : Tree) → IsText limit (compact t) u → compact u ≡ compact t)

-- the compact text of a tree is a text at a limit exactly if the tree's containers are nested at most so deep
abbrev pub CompactWithin : Type 0
CompactWithin = (t : Tree) (n : ℕ) → IsTree t → IsText (Some n) (compact t) t ↔ (tree_depth t ≤ n)

-- and so is its indented text
abbrev pub IndentedWithin : Type 0
IndentedWithin =
    (t : Tree) (indent : List ℕ) (n : ℕ) → AreWhite indent → IsTree t →
    IsText (Some n) (indented t indent 0) t ↔ (tree_depth t ≤ n)

-- what is accepted under a limit reads back under the same limit
abbrev pub LimitKept : Type 0
LimitKept =
    (limit : Option ℕ) (xs : List ℕ) (t : Tree) (indent : List ℕ) → AreWhite indent → IsText limit xs t →
    IsText limit (compact t) t × IsText limit (indented t indent 0) t

-- the characters of a text are scalar values, so they have an encoding in UTF-8
abbrev pub TextsAreUtf8 : Type 0
TextsAreUtf8 =
    (limit : Option ℕ) (xs : List ℕ) (t : Tree) → IsText limit xs t →
    IsTrue (all_scalars xs) × IsUtf8 (encode_utf8_all xs)

-- the characters of a compact text have an encoding in UTF-8
abbrev pub CompactIsUtf8 : Type 0
CompactIsUtf8 = (t : Tree) → IsTree t → IsUtf8 (encode_utf8_all (compact t))

-- and so have those of an indented text, where those of the indent have
abbrev pub IndentedIsUtf8 : Type 0
IndentedIsUtf8 =
    (t : Tree) (indent : List ℕ) → IsTrue (all_scalars indent) → IsTree t →
    IsUtf8 (encode_utf8_all (indented t indent 0))
