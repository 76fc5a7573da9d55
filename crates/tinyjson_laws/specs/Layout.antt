-- The texts of a tree without and with an indent, each said by itself.
use Rattle.std.specs.Prelude.{◌≡◌, ℕ, ◌+◌, List, [], ◌∷◌, ◌++◌, cond, codes}
use Rattle.tinyjson_grammar.specs.Tree.{Tree, Items, Members, null, boolean, number, string}
use Rattle.tinyjson_grammar.specs.Tree.{array, object, no_items, item, no_members, member}
use Rattle.tinyjson_number.specs.Text.{decimal_text}
use Rattle.tinyjson_grammar.specs.Characters.{begin_array, begin_object, end_array, end_object}
use Rattle.tinyjson_grammar.specs.Characters.{name_separator, value_separator, space, line_feed}
use Rattle.tinyjson_grammar.specs.Text.{quoted, repeated, compact, indented}

-- the texts with commas between them
abbrev pub with_commas : List (List ℕ) → List ℕ
with_commas [] = []
with_commas (x ∷ []) = x
with_commas (x ∷ y ∷ ys) = x ++ value_separator ∷ with_commas (y ∷ ys)

-- ---- without white space

abbrev mutual
  pub compact_text : Tree → List ℕ
  compact_text null = codes "null"
  compact_text (boolean b) = cond b (codes "true") (codes "false")
  compact_text (number d) = decimal_text d
  compact_text (string cs) = quoted cs
  compact_text (array ts) = begin_array ∷ (with_commas (compact_items ts) ++ end_array ∷ [])
  compact_text (object ms) = begin_object ∷ (with_commas (compact_members ms) ++ end_object ∷ [])

  pub compact_items : Items → List (List ℕ)
  compact_items no_items = []
  compact_items (item t ts) = compact_text t ∷ compact_items ts

  pub compact_members : Members → List (List ℕ)
  compact_members no_members = []
  compact_members (member k t ms) = (quoted k ++ name_separator ∷ compact_text t) ∷ compact_members ms

-- ---- with an indent

-- a line feed and k times the indent
abbrev pub line : List ℕ → ℕ → List ℕ
line indent k = line_feed ∷ repeated k indent

-- the texts with commas between them and the last line after them, or nothing where there are none
abbrev pub lines : List (List ℕ) → List ℕ → List ℕ
lines [] last = []
lines (x ∷ xs) last = with_commas (x ∷ xs) ++ last

abbrev mutual
  pub indented_text : List ℕ → ℕ → Tree → List ℕ
  indented_text indent level null = codes "null"
  indented_text indent level (boolean b) = cond b (codes "true") (codes "false")
  indented_text indent level (number d) = decimal_text d
  indented_text indent level (string cs) = quoted cs
  indented_text indent level (array ts) =
      begin_array ∷ (lines (indented_items indent (level + 1) ts) (line indent level) ++ end_array ∷ [])
  indented_text indent level (object ms) =
      begin_object ∷ (lines (indented_members indent (level + 1) ms) (line indent level) ++ end_object ∷ [])

  -- each on a line at the level
  pub indented_items : List ℕ → ℕ → Items → List (List ℕ)
  indented_items indent level no_items = []
  indented_items indent level (item t ts) = (line indent level ++ indented_text indent level t) ∷ indented_items indent level ts

  pub indented_members : List ℕ → ℕ → Members → List (List ℕ)
  indented_members indent level no_members = []
  indented_members indent level (member k t ms) =
      (line indent level ++ (quoted k ++ name_separator ∷ space ∷ indented_text indent level t))
      ∷ indented_members indent level ms

-- the compact text of a tree is laid out so
abbrev pub CompactLayout : Type 0
CompactLayout = (t : Tree) → compact t ≡ compact_text t

-- the indented text of a tree at a level is laid out so, whatever the indent
abbrev pub IndentedLayout : Type 0
IndentedLayout = (t : Tree) (indent : List ℕ) (level : ℕ) → indented t indent level ≡ indented_text indent level t
