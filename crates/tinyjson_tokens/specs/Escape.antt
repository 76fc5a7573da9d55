-- Escapes among the bytes of a text, as the machine reads them. For contracts inside the parser.
use Rattle.std.specs.Prelude.{◌≡◌, ℕ, ◌+◌, ◌<◌, ◌≤◌, true, List, [], ◌∷◌, ◌++◌, length, drop, Option}
use Rattle.std.specs.Char.{is_ascii}
use Rattle.std.specs.List.{AllByRecursion}
use Rattle.tinyjson_grammar.specs.Characters.{reverse_solidus, letter_u, is_hex, unit_of}
use Rattle.tinyjson_grammar.specs.Machine.{Frame, next, plain, quoted}
use Rattle.tinyjson_tokens.specs.Steps.{Comes}

-- from a place to another one the text has these bytes, which are ASCII
pub record Stands (text : List ℕ) (at to : ℕ) (xs : List ℕ) : Type 0 where
  pub ascii : AllByRecursion (λ b. is_ascii b ≡ true) xs
  pub here : drop at text ≡ xs ++ drop to text
  pub long : to ≡ at + length xs
  pub fits : to ≤ length text

-- at a place is the escape of a unit
pub record UnitAt (text : List ℕ) (at unit : ℕ) : Type 0 where
  pub digits : List ℕ
  pub four : length digits ≡ 4
  pub hex : AllByRecursion (λ d. is_hex d ≡ true) digits
  pub value : unit ≡ unit_of 0 digits
  pub stands : Stands text at (at + 6) (reverse_solidus ∷ letter_u ∷ digits)

-- From a place to another one are escapes that spell these characters, of which no unit waits for a partner.
pub record Spells (text : List ℕ) (at : ℕ) (ds : List ℕ) (to : ℕ) : Type 0 where
  pub taken : List ℕ
  pub stands : Stands text at to taken
  pub comes : (limit : Option ℕ) (fs : List Frame) (cs rest : List ℕ)
      → Comes limit (next fs (quoted plain cs [])) taken (next fs (quoted plain (cs ++ ds) [])) rest

-- from a place to one behind it are escapes that spell a character
pub record EscapeAt (text : List ℕ) (at c to : ℕ) : Type 0 where
  pub some : at < to
  pub spells : Spells text at (c ∷ []) to
