-- The grammar of JSON texts (RFC 8259, sections 2 to 8), and the loose grammar, which drops four of its conditions.
use Rattle.std.specs.Prelude.{◌≡◌, ℕ, List, ◌++◌, Option}
use Rattle.std.specs.Int.{Width}
use Rattle.tinyjson_number.specs.Numeral.{power_width}
use Rattle.tinyjson_grammar.specs.Tree.{Tree}
use Rattle.tinyjson_grammar.specs.Syntax.{Syntax, text, AreWhite, IsSpelled, IsStrictAt, depth, IsWithin, tree_of}

-- White space, a value, white space: a text of the loose grammar. The limit bounds the containers that are open at once.
pub record IsLoose (limit : Option ℕ) (xs : List ℕ) : Type 0 where
  pub before : List ℕ
  pub value : Syntax
  pub after : List ℕ
  pub white_before : AreWhite before
  pub spelled : IsSpelled value
  pub white_after : AreWhite after
  pub shallow : IsWithin limit (depth value)
  pub whole : xs ≡ before ++ (text value ++ after)

-- A text of the grammar with the powers of that width, and its tree.
pub record IsTextAt (width : Width) (limit : Option ℕ) (xs : List ℕ) (t : Tree) : Type 0 where
  pub loose : IsLoose limit xs
  pub strict : IsStrictAt width loose.value
  pub tree : t ≡ tree_of loose.value

-- A text of the grammar, with its tree.
abbrev pub IsText : Option ℕ → List ℕ → Tree → Type 0
IsText limit xs t = IsTextAt power_width limit xs t

abbrev pub IsAccepted : Option ℕ → List ℕ → Type 0
IsAccepted limit xs = (t : Tree) × IsText limit xs t
