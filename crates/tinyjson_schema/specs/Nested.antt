-- Schemas that a schema applies, and how deep they are nested (JSON Schema 2020-12, Core, sections 8.2.3, 10 and 11).
use Rattle.std.specs.Prelude.{◌≡◌, ℕ, zero, suc, Bool, true, false, List, Some, is_some}
use Rattle.text_iregexp.specs.PatternDeciding.{is_found}
use Rattle.tinyjson.specs.Index.{tree_at_key, nth}
use Rattle.tinyjson.specs.Tree.{Tree, string, find}
use Rattle.tinyjson_schema_keywords.specs.Applied.{schema_at, schemas_at, schema_map_at, branch, items_in, members_in}
use Rattle.tinyjson_schema_keywords.specs.References.{referenced}
use Rattle.tinyjson_schema_keywords.specs.declared.keyword.Keyword.{Keyword}
use Rattle.tinyjson_schema_keywords.specs.declared.keyword.Keyword.TheVariants as kw
use Rattle.tinyjson_schema.specs.Evaluated.{Child, member_at, item_at, value_of, rest_keyword}
use Rattle.tinyjson_schema.specs.Parts.{member_schema, item_schema}
use Rattle.tinyjson_schema.specs.declared.walk.CheckError.{CheckError}
use Rattle.tinyjson_schema.specs.declared.walk.CheckError.TheVariants.{TooDeep}

-- the keyword applies each schema of a list to the value itself
abbrev pub is_listing : Keyword → Bool
is_listing kw.AllOf = true
is_listing kw.AnyOf = true
is_listing kw.OneOf = true
is_listing _ = false

-- the keyword applies the schema to which it leads, with its siblings (8.2.3)
abbrev pub is_reference : Keyword → Bool
is_reference kw.Ref = true
is_reference kw.DynamicRef = true
is_reference _ = false

-- the tree has the child
abbrev pub HasChild : Tree → Child → Type 0
HasChild t (member_at k u) = find k (members_in t) ≡ Some u
HasChild t (item_at i u) = nth (items_in t) i ≡ Some u

-- To judge the value t by the schema s in the root schema, the schema r may be applied to u. It is one of the keyword's
-- schemas that are for t: not which of them `if` chooses, nor which children the other keywords evaluate.
pub data Applies : Tree → Tree → Tree → Tree → Tree → Type 0 where
  by_list : {root s t r : Tree} (k : Keyword) (i : ℕ) → is_listing k ≡ true → nth (schemas_at s k) i ≡ Some r → Applies root s t r t
  by_not : {root s t r : Tree} → schema_at s kw.Not ≡ Some r → Applies root s t r t
  by_if : {root s t r : Tree} → schema_at s kw.If ≡ Some r → Applies root s t r t
  by_branch : {root s t r : Tree} (b : Bool) → is_some (schema_at s kw.If) ≡ true → schema_at s (branch b) ≡ Some r → Applies root s t r t
  by_key : {root s t r : Tree} (k : List ℕ) → is_some (tree_at_key t k) ≡ true → find k (schema_map_at s kw.DependentSchemas) ≡ Some r
      → Applies root s t r t
  by_reference : {root s t r : Tree} (k : Keyword) → is_reference k ≡ true → referenced root k s ≡ Some r → Applies root s t r t
  by_pattern : {root s t r u : Tree} (p k : List ℕ) → find p (schema_map_at s kw.PatternProperties) ≡ Some r → is_found p k ≡ true
      → find k (members_in t) ≡ Some u → Applies root s t r u
  by_member : {root s t r u : Tree} (k : List ℕ) → member_schema s k ≡ Some r → find k (members_in t) ≡ Some u → Applies root s t r u
  by_item : {root s t r u : Tree} (i : ℕ) → item_schema s i ≡ Some r → nth (items_in t) i ≡ Some u → Applies root s t r u
  by_name : {root s t r : Tree} (k : List ℕ) → schema_at s kw.PropertyNames ≡ Some r → is_some (find k (members_in t)) ≡ true
      → Applies root s t r (string k)
  by_contains : {root s t r u : Tree} (i : ℕ) → schema_at s kw.Contains ≡ Some r → nth (items_in t) i ≡ Some u → Applies root s t r u
  by_rest : {root s t r : Tree} (c : Child) → schema_at s (rest_keyword c) ≡ Some r → HasChild t c → Applies root s t r (value_of c)

-- More than n schemas are applied one within the other, from s to t on.
pub data Nests : Tree → ℕ → Tree → Tree → Type 0 where
  one : {root s t : Tree} → Nests root zero s t
  within : {root s t r u : Tree} {n : ℕ} → Applies root s t r u → Nests root n r u → Nests root (suc n) s t

-- what the error `TooDeep` means; the others mean nothing here
abbrev pub IfDeep : CheckError → Type 0 → Type 0
IfDeep TooDeep P = P
IfDeep _ P = Unit {0}
