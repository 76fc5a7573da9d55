-- The assertions of a schema, in a list.
use Rattle.std.specs.Prelude.{◌≡◌, Bool, true, false, ◌&&◌, List, [], ◌∷◌, Option, Some, None}
use Rattle.tinyjson.specs.Equality.{tree_eq}
use Rattle.tinyjson.specs.Tree.{Tree}
use Rattle.tinyjson.specs.View.{view}
use Rattle.tinyjson_schema_assertions.specs.Assertions.{accepts, meets, meets_all, constraints}
use Rattle.tinyjson_schema_keywords.specs.Applied.{schema_at}
use Rattle.tinyjson_schema_keywords.specs.declared.keyword.Keyword.{Keyword}
use Rattle.tinyjson_schema_table.specs.declared.given.Given.{Given}

-- there is a tree, and it is this one
abbrev pub is_at : Option Tree → Tree → Bool
is_at None t = false
is_at (Some u) t = tree_eq u t

-- the schema has each in the list
abbrev pub are_had : Tree → List Given → Bool
are_had s [] = true
are_had s (g ∷ gs) = is_at (schema_at s g.keyword) (view g.operand.now) && are_had s gs

-- the value meets each in the list
abbrev pub meets_given : List Given → Tree → Bool
meets_given [] t = true
meets_given (g ∷ gs) t = accepts g.keyword (view g.operand.now) t && meets_given gs t

-- A value that meets those in the list meets all of the schema's but `format`.
abbrev pub AreAll : Tree → List Given → Type 0
AreAll s gs = (t : Tree) → meets_given gs t ≡ meets_all constraints s t

-- The keyword is added if the schema has it.
pub record AddsGiven (s : Tree) (k : Keyword) (old new : List Given) : Type 0 where
  pub had : are_had s old ≡ true → are_had s new ≡ true
  pub all : (t : Tree) → meets_given new t ≡ (meets_given old t && meets k s t)
