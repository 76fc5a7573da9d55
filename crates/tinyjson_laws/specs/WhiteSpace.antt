-- Laws of the white space between tokens.
use Rattle.std.specs.Prelude.{◌≡◌, ℕ, cond, ◌==◌, List, [], ◌∷◌, ◌++◌, Option}
use Rattle.tinyjson_grammar.specs.Characters.{is_white, quotation_mark, reverse_solidus}
use Rattle.tinyjson_grammar.specs.Tree.{Tree}
use Rattle.tinyjson_grammar.specs.Syntax.{
  Syntax,
  Elements,
  Pairs,
  null,
  boolean,
  number,
  string,
  empty_array,
  array,
  empty_object,
  object,
  last_element,
  element,
  last_pair,
  pair,
}
use Rattle.tinyjson_grammar.specs.Grammar.{IsLoose, IsText}

-- ---- on a list of characters

-- where a character is
pub data Place : Type 0 where
  outside : Place
  in_string : Place
  after_backslash : Place

-- where the next character is
abbrev pub place_after : Place → ℕ → Place
place_after outside c = cond (c == quotation_mark) in_string outside
place_after in_string c = cond (c == quotation_mark) outside (cond (c == reverse_solidus) after_backslash in_string)
place_after after_backslash c = in_string

-- the character, or nothing where it is white space outside a string
abbrev pub kept_part : Place → ℕ → List ℕ
kept_part outside c = cond (is_white c) [] (c ∷ [])
kept_part in_string c = c ∷ []
kept_part after_backslash c = c ∷ []

abbrev pub kept_from : Place → List ℕ → List ℕ
kept_from p [] = []
kept_from p (c ∷ cs) = kept_part p c ++ kept_from (place_after p c) cs

-- the list without the white space outside its strings
abbrev pub without_white : List ℕ → List ℕ
without_white xs = kept_from outside xs

-- a text stays one, with its tree, when the white space outside its strings is taken out
abbrev pub WhiteRemoved : Type 0
WhiteRemoved = (limit : Option ℕ) (xs : List ℕ) (t : Tree) → IsText limit xs t → IsText limit (without_white xs) t

-- two texts that are the same but for white space outside strings have one tree
abbrev pub SameButWhite : Type 0
SameButWhite =
    (limit : Option ℕ) (xs ys : List ℕ) (t u : Tree) →
    IsText limit xs t → IsText limit ys u → without_white xs ≡ without_white ys → t ≡ u

-- ---- on a value as it is spelled

-- the value without the white space between its tokens
abbrev mutual
  pub bare_value : Syntax → Syntax
  bare_value null = null
  bare_value (boolean b) = boolean b
  bare_value (number n) = number n
  bare_value (string ps) = string ps
  bare_value (empty_array w) = empty_array []
  bare_value (array es) = array (bare_elements es)
  bare_value (empty_object w) = empty_object []
  bare_value (object ps) = object (bare_pairs ps)

  pub bare_elements : Elements → Elements
  bare_elements (last_element v s w) = last_element [] (bare_value s) []
  bare_elements (element v s w es) = element [] (bare_value s) [] (bare_elements es)

  pub bare_pairs : Pairs → Pairs
  bare_pairs (last_pair a k b c s d) = last_pair [] (bare_value k) [] [] (bare_value s) []
  bare_pairs (pair a k b c s d ps) = pair [] (bare_value k) [] [] (bare_value s) [] (bare_pairs ps)

-- where one of two lists that differ in the white space between tokens alone is a text, so is the other, with the same tree
abbrev pub WhiteChangesNothing : Type 0
WhiteChangesNothing =
    (limit : Option ℕ) (xs ys : List ℕ) (t : Tree) (h : IsText limit xs t) (m : IsLoose limit ys) →
    bare_value h.loose.value ≡ bare_value m.value → IsText limit ys t
