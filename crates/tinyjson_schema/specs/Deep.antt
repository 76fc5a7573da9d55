-- What the error `TooDeep` says of a schema in a walk; for private contracts.
use Rattle.std.specs.Prelude.{◌≡◌, ℕ, suc, List, Some, is_some, true}
use Rattle.text_iregexp.specs.PatternDeciding.{is_found}
use Rattle.tinyjson.specs.Index.{nth, tree_at_key}
use Rattle.tinyjson.specs.Tree.{Tree, string, Items, Members, find}
use Rattle.tinyjson.specs.View.{view}
use Rattle.tinyjson_schema.specs.Nested.{IfDeep, Nests}
use Rattle.tinyjson_schema_keywords.specs.References.{referenced}
use Rattle.tinyjson_schema_keywords.specs.declared.keyword.Keyword.{Keyword}
use Rattle.tinyjson_schema.specs.declared.walk.CheckError.{CheckError}
use Rattle.tinyjson_schema.specs.declared.walk.Walk.{Walk}

-- it is another error
abbrev pub IsShallow : CheckError → Type 0
IsShallow e = IfDeep e ⊥

abbrev pub root_tree : Walk → Tree
root_tree w = view w.ground.now.whole.now.root.now

-- A schema is applied to u in the walk, and too many are nested from there on.
abbrev pub Descends : Walk → Tree → Tree → Type 0
Descends w r u = Nests (root_tree w) w.steps r u

-- as `Descends`, of a schema that s applies, where the walk is for these
abbrev pub DescendsIn : Walk → Tree → Tree → Type 0
DescendsIn w s t = Nests (root_tree w) (suc w.steps) s t

-- of one of the schemas
abbrev pub DescendsAmong : Walk → Items → Tree → Type 0
DescendsAmong w rs t = (i : ℕ) × (r : Tree) × (nth rs i ≡ Some r) × Descends w r t

-- of the schema for one of the items
abbrev pub DescendsAtItem : Walk → Tree → Items → Type 0
DescendsAtItem w r us = (i : ℕ) × (u : Tree) × (nth us i ≡ Some u) × Descends w r u

-- for one of the keys
abbrev pub DescendsAtKey : Walk → Tree → Members → Type 0
DescendsAtKey w r ms = (k : List ℕ) × (is_some (find k ms) ≡ true) × Descends w r (string k)

-- of the schema to which the reference leads
abbrev pub DescendsBy : Walk → Keyword → Tree → Tree → Type 0
DescendsBy w k s t = (r : Tree) × (referenced (root_tree w) k s ≡ Some r) × Descends w r t

-- of a schema for a key that the value has
abbrev pub DescendsForKey : Walk → List ℕ → Tree → Tree → Type 0
DescendsForKey w k r t = (is_some (tree_at_key t k) ≡ true) × Descends w r t

-- for one of the members whose key the pattern matches
abbrev pub DescendsAtFound : Walk → List ℕ → Tree → Members → Type 0
DescendsAtFound w p r ms = (k : List ℕ) × (u : Tree) × (is_found p k ≡ true) × (find k ms ≡ Some u) × Descends w r u

abbrev pub IsDeep : Walk → Tree → Tree → CheckError → Type 0
IsDeep w s t e = IfDeep e (DescendsIn w s t)

abbrev pub IsDeepFound : Walk → List ℕ → Tree → Members → CheckError → Type 0
IsDeepFound w p r ms e = IfDeep e (DescendsAtFound w p r ms)
