-- What is found in a table.
use Rattle.std.specs.Prelude.{◌≡◌, ℕ, Bool, true, List, Option, Some, None}
use Rattle.tinyjson.specs.Equality.{tree_eq}
use Rattle.tinyjson.specs.Tree.{Tree}
use Rattle.tinyjson.specs.View.{view}
use Rattle.tinyjson_schema_table.specs.Links.{tree_in}
use Rattle.tinyjson_schema_table.specs.declared.table.Known.{Known}
use Rattle.tinyjson_schema_table.specs.declared.shape.Shape.{Shape}

-- the tree of what is known
abbrev pub tree_of : Known → Tree
tree_of n = view n.shape.now.schema.now

-- what is found, if anything is, is the schema at the place
abbrev pub IsIn : List Shape → ℕ → Option Known → Type 0
IsIn xs i None = Unit {0}
IsIn xs i (Some n) = tree_in xs i ≡ Some (tree_of n)

-- what is found, if anything is, is the schema
abbrev pub LeadsTo : Option Tree → Option Known → Type 0
LeadsTo o None = Unit {0}
LeadsTo o (Some n) = o ≡ Some (tree_of n)

-- what is known, if anything is, is the schema
abbrev pub is_of : Option Known → Tree → Bool
is_of None s = true
is_of (Some n) s = tree_eq (tree_of n) s
