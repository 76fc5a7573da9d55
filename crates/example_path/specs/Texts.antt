-- The texts of the values that a query selects in a document.
use Rattle.std.specs.Prelude.{◌≡◌, ℕ, List, ◌++◌, map, Some, Ok, Err}
use Rattle.tinyjson.specs.Words.{Tree, IsText, ParsesText, compact}
use Rattle.tinyjson_path.specs.Nodes.{Part}
use Rattle.tinyjson_path.specs.Patterns.{Judge, IsRight}
use Rattle.tinyjson_path.specs.Queries.{query_parts}
use Rattle.tinyjson_path.specs.Query.{Query}
use Rattle.tinyjson_path.specs.Reading.{Reads}
use Rattle.tinyjson_path.specs.Strings.{query_strings, strings_in, IsFrom}
use Rattle.example_path.specs.declared.error.TextsError.{TextsError}
use Rattle.example_path.specs.declared.error.TextsError.TheVariants as error

-- the compact text of each part
abbrev pub part_texts : List Part → List (List ℕ)
part_texts ps = map (λ p. compact p.tree) ps

-- The document is a text of this tree, and the query one of this query. The texts are the compact texts of
-- exactly what the query selects in the tree, in order, with right answers for regular expressions.
pub record AreSelected (document query : List ℕ) (texts : List (List ℕ)) : Type 0 where
  pub tree : Tree
  pub is_text : IsText (Some 100) document tree
  pub path : Query
  pub reads : Reads query (Ok path)
  pub judge : Judge
  pub right : IsRight judge
  pub same : texts ≡ part_texts (query_parts judge path tree)

-- an error is that of a parser, or of the search: then a string of the query or the tree exceeds the limit
abbrev pub Explains : (document query : List ℕ) → TextsError → Type 0
Explains document query (error.Query e) = Reads query (Err e)
Explains document query (error.Document e) = ParsesText (Some 100) document (Err e)
Explains document query (error.Find e) =
    (t : Tree) × IsText (Some 100) document t × (q : Query) × Reads query (Ok q) × IsFrom (query_strings q ++ strings_in t) e
