-- What a query selects in texts that are lines.
use Rattle.std.specs.Prelude.{◌≡◌, ◌≢◌, ℕ, Bool, List, [], ◌∷◌, ◌++◌, Option, Result, Ok, Err, length}
use Rattle.tinyjson_c.specs.Lines.{AreFirst, AreLines, IsStoppedAt, first_line}
use Rattle.tinyjson_c.specs.Select.{HasLargePattern, IsBadQuery, IsNotFound, IsQueryOf, part_lines}
use Rattle.tinyjson_c.specs.Stop.{IsTextOf}
use Rattle.tinyjson_c.specs.declared.select.Unselected.{Unselected}
use Rattle.tinyjson_c.specs.declared.select.Unselected.TheVariants as un
use Rattle.tinyjson_c.specs.declared.stop.Stop.TheVariants as stop
use Rattle.tinyjson_grammar.specs.Characters.{line_feed}
use Rattle.tinyjson_grammar.specs.Tree.{Tree}
use Rattle.tinyjson_path.specs.Patterns.{IsRight, Judge, judged}
use Rattle.tinyjson_path.specs.Queries.{query_parts}
use Rattle.tinyjson_path.specs.Query.{Query}

-- what the query selects in each tree, with an empty line after it
abbrev pub selected_text : Judge → Query → Bool → List Tree → List ℕ
selected_text judge q paths [] = []
selected_text judge q paths (t ∷ ts) =
    (part_lines paths (query_parts judge q t) ++ line_feed ∷ []) ++ selected_text judge q paths ts

-- The bytes are what the query selects in each line's tree; regular expressions are judged rightly.
pub record SelectsLines (limit : Option ℕ) (text query : List ℕ) (paths : Bool) (bytes : List ℕ) : Type 0 where
  pub judge : Judge
  pub is_right : IsRight judge
  pub asked : Query
  pub trees : List Tree
  pub is_query : IsQueryOf query asked
  pub are_lines : AreLines limit text trees
  pub are_bytes : bytes ≡ selected_text judge asked paths trees

-- The line has this index, from 0, and the lines before it have trees.
pub record IsLineAt (limit : Option ℕ) (text : List ℕ) (number : ℕ) (line : List ℕ) : Type 0 where
  pub trees : List Tree
  pub rest : List ℕ
  pub before : AreFirst limit text trees rest
  pub more : rest ≢ []
  pub counted : number ≡ length trees
  pub is_line : line ≡ first_line rest

-- ---- for private contracts

-- what a query selects in a line is appended, and an empty line; or why not
abbrev pub FindsInLine : Option ℕ → Query → List ℕ → Bool → List ℕ → List ℕ → Result (Unit {0}) Unselected → Type 0
FindsInLine limit q line paths old new (Ok _) = (t : Tree) × IsTextOf limit line t
    × (new ≡ old ++ (part_lines paths (query_parts judged q t) ++ line_feed ∷ []))
FindsInLine limit q line paths old new (Err e) = IsNotFound limit q line e

-- why nothing is selected in the line with this index
abbrev pub IsUnselectedAt : Option ℕ → List ℕ → List ℕ → ℕ → Unselected → Type 0
IsUnselectedAt limit text query n (un.Text stop.OutOfMemory) = Unit {0}
IsUnselectedAt limit text query n (un.Text s) = ((q : Query) × IsQueryOf query q) × IsStoppedAt limit text n s
IsUnselectedAt limit text query n (un.BadQuery k) = IsBadQuery query k
IsUnselectedAt limit text query n un.PatternLimit = (line : List ℕ) × IsLineAt limit text n line × HasLargePattern limit line query
