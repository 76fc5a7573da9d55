-- The links between the subschemas of a table.
use Rattle.std.specs.Prelude.{◌≡◌, ℕ, Bool, true, false, ◌&&◌, List, [], ◌∷◌, Option, Some, None, Vec}
use Rattle.std.specs.Prelude.{option_map, option_and_then, slice_get}
use Rattle.std.specs.Str.{chars}
use Rattle.std.specs.declared.alloc.Global.{Global}
use Rattle.tinyjson.specs.Equality.{tree_eq}
use Rattle.tinyjson.specs.Index.{nth, tree_at_key}
use Rattle.tinyjson.specs.Tree.{Tree}
use Rattle.tinyjson.specs.View.{view}
use Rattle.tinyjson_schema_keywords.specs.Applied.{schema_at, schemas_at}
use Rattle.tinyjson_schema_keywords.specs.declared.keyword.Keyword.{Keyword}
use Rattle.tinyjson_schema_table.specs.Givens.{is_at}
use Rattle.tinyjson_schema_table.specs.declared.link.Link.{Link}
use Rattle.tinyjson_schema_table.specs.declared.shape.Shape.{Shape}
use Rattle.tinyjson_schema_table.specs.declared.link.Way.{Way}
use Rattle.tinyjson_schema_table.specs.declared.link.Way.TheVariants as way

-- the schema at a key of the keyword's object
abbrev pub keyed : Tree → Keyword → List ℕ → Option Tree
keyed s k l = option_and_then (λ p. tree_at_key p l) (schema_at s k)

-- the schema to which the way leads
abbrev pub led_by : Tree → Way → Option Tree
led_by s (way.Single k) = schema_at s k
led_by s (way.Listed k i) = nth (schemas_at s k) i
led_by s (way.Keyed k l) = keyed s k (chars l.now)

-- the schema at a place of the table
abbrev pub tree_in : List Shape → ℕ → Option Tree
tree_in xs i = option_map (λ x. view x.schema.now) (slice_get xs i)

-- both are there and equal
abbrev pub are_same : Option Tree → Option Tree → Bool
are_same o None = false
are_same o (Some t) = is_at o t

-- the links lead from the schema to those of its subschemas that are at their places
abbrev pub is_link : List Shape → Tree → Link → Bool
is_link xs s l = are_same (led_by s l.way) (tree_in xs l.at)

abbrev pub are_links : List Shape → Tree → List Link → Bool
are_links xs s [] = true
are_links xs s (l ∷ ls) = is_link xs s l && are_links xs s ls

abbrev pub fit : List Shape → Option Tree → Option (Vec Link Global) → Bool
fit xs (Some s) (Some ls) = are_links xs s ls.items
fit xs _ _ = true

-- The links at each place are those of the schema there.
abbrev pub AreLinked : List Shape → List (Vec Link Global) → Type 0
AreLinked xs lss = (i : ℕ) → fit xs (tree_in xs i) (slice_get lss i) ≡ true

-- Each schema keeps its place.
abbrev pub Keeps : List Shape → List Shape → Type 0
Keeps old new = (i : ℕ) (t : Tree) → tree_in old i ≡ Some t → tree_in new i ≡ Some t

-- links of the schema, and shapes, are added
pub record AddsLinks (s : Tree) (xs ys : List Shape) (ls ms : List Link) : Type 0 where
  pub keeps : Keeps xs ys
  pub links : are_links xs s ls ≡ true → are_links ys s ms ≡ true

-- the links of the next schema, and shapes, are added
pub record AddsNext (xs ys : List Shape) (lss mss : List (Vec Link Global)) : Type 0 where
  pub keeps : Keeps xs ys
  pub linked : AreLinked xs lss → AreLinked ys mss

-- the place is that to which one of the links leads, the one for the way
pub record IsPlaceOf (ls : List Link) (w : Way) (at : ℕ) : Type 0 where
  pub index : ℕ
  pub link : Link
  pub there : slice_get ls index ≡ Some link
  pub leads : (s : Tree) → led_by s link.way ≡ led_by s w
  pub place : at ≡ link.at
