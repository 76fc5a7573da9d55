-- The members and items of a value that a schema evaluates, by the annotations of its keywords (JSON Schema
-- 2020-12, Core, 7.7.1 and section 11). It matters only for schemas that accept the value: the annotations of
-- others are dropped.
use Rattle.std.specs.Prelude.{◌≡◌, ℕ, suc, Bool, true, false, ◌&&◌, ◌||◌, List, Some, is_some}
use Rattle.std.specs.Option.{option_map_or}
use Rattle.tinyjson.specs.Index.{tree_at_key, nth}
use Rattle.tinyjson.specs.Tree.{Tree, array, object, Items, no_items, item, Members, no_members, member, find}
use Rattle.tinyjson_pointer.specs.Index.{index_of}
use Rattle.tinyjson_schema_keywords.specs.Applied.{schema_at, schemas_at, schema_map_at, branch, items_in, members_in}
use Rattle.tinyjson_schema_keywords.specs.References.{referenced}
use Rattle.tinyjson_schema_keywords.specs.declared.keyword.Keyword.{Keyword}
use Rattle.tinyjson_schema_keywords.specs.declared.keyword.Keyword.TheVariants as kw
use Rattle.tinyjson_schema.specs.Applicators.{Judge}
use Rattle.tinyjson_schema.specs.Parts.{is_patterned, member_schema, item_schema}

-- a member with its key, or an item with its index
pub data Child : Type 0 where
  member_at : List ℕ → Tree → Child
  item_at : ℕ → Tree → Child

abbrev pub value_of : Child → Tree
value_of (member_at k u) = u
value_of (item_at i u) = u

-- the token names the child of the tree
abbrev pub IsChild : Tree → List ℕ → Child → Type 0
IsChild t k (member_at l u) = (k ≡ l) × (find l (members_in t) ≡ Some u)
IsChild t k (item_at i u) = (index_of k ≡ Some i) × (nth (items_in t) i ≡ Some u)

-- the results of schemas for values: whether a schema, the first tree, accepts a value, and which children it
-- evaluates
pub record Answers : Type 0 where
  pub accepts : Judge
  pub evaluates : Tree → Tree → Child → Bool

-- the keyword for what no other evaluates
abbrev pub rest_keyword : Child → Keyword
rest_keyword (member_at k u) = kw.UnevaluatedProperties
rest_keyword (item_at i u) = kw.UnevaluatedItems

-- A keyword of the schema s for members or items applies to the child (10.3): `properties`, `additionalProperties`
-- or `patternProperties`; `prefixItems`, `items`, or `contains` if its schema accepts the child.
abbrev pub applies_to : Judge → Tree → Child → Bool
applies_to f s (member_at k u) = is_some (member_schema s k) || is_patterned s k
applies_to f s (item_at i u) = is_some (item_schema s i) || option_map_or (λ r. f r u) (schema_at s kw.Contains) false

-- one of the schemas evaluates the child; all of them accept the value
abbrev pub some_evaluate : Answers → Items → Tree → Child → Bool
some_evaluate a no_items t c = false
some_evaluate a (item r rs) t c = a.evaluates r t c || some_evaluate a rs t c

-- one of those that accept the value evaluates the child
abbrev pub accepting_evaluate : Answers → Items → Tree → Child → Bool
accepting_evaluate a no_items t c = false
accepting_evaluate a (item r rs) t c = (a.accepts r t && a.evaluates r t c) || accepting_evaluate a rs t c

-- the schema of `if` evaluates the child, if it accepts the value, or the one that it chooses does
abbrev pub branch_evaluates : Answers → Tree → Tree → Child → Bool
branch_evaluates a s t c = option_map_or (λ r. (a.accepts r t && a.evaluates r t c)
    || option_map_or (λ q. a.evaluates q t c) (schema_at s (branch (a.accepts r t))) false) (schema_at s kw.If) false

-- one of those evaluates the child whose key the value has
abbrev pub dependents_evaluate : Answers → Members → Tree → Child → Bool
dependents_evaluate a no_members t c = false
dependents_evaluate a (member k r rs) t c = (is_some (tree_at_key t k) && a.evaluates r t c) || dependents_evaluate a rs t c

-- the schema to which `$ref` or `$dynamicRef` leads evaluates the child
abbrev pub target_evaluates : Tree → Keyword → Answers → Tree → Tree → Child → Bool
target_evaluates root k a s t c = option_map_or (λ r. a.evaluates r t c) (referenced root k s) false

abbrev pub reference_evaluates : Tree → Answers → Tree → Tree → Child → Bool
reference_evaluates root a s t c = target_evaluates root kw.Ref a s t c || target_evaluates root kw.DynamicRef a s t c

-- a schema evaluates the child that s applies to the value itself
abbrev pub inner_evaluate : Tree → Answers → Tree → Tree → Child → Bool
inner_evaluate root a s t c = some_evaluate a (schemas_at s kw.AllOf) t c || (accepting_evaluate a (schemas_at s kw.AnyOf) t c
    || (accepting_evaluate a (schemas_at s kw.OneOf) t c || (branch_evaluates a s t c
    || (dependents_evaluate a (schema_map_at s kw.DependentSchemas) t c || reference_evaluates root a s t c))))

-- the schema s evaluates the child, without its own `unevaluatedProperties` and `unevaluatedItems`
abbrev pub others_evaluate : Tree → Answers → Tree → Tree → Child → Bool
others_evaluate root a s t c = applies_to a.accepts s c || inner_evaluate root a s t c

-- the schema s evaluates the child; those two leave none
abbrev pub evaluates_by : Tree → Answers → Tree → Tree → Child → Bool
evaluates_by root a s t c = is_some (schema_at s (rest_keyword c)) || others_evaluate root a s t c

-- the schema of `unevaluatedProperties`, or `unevaluatedItems`, accepts what the others do not evaluate (11.2 and
-- 11.3)
abbrev pub rest_accepts : Tree → Answers → Tree → Tree → Child → Bool
rest_accepts root a s t c =
    option_map_or (λ r. others_evaluate root a s t c || a.accepts r (value_of c)) (schema_at s (rest_keyword c)) true

-- each member, and each item, passes the test; the first item has the index i
abbrev pub members_pass : (Child → Bool) → Members → Bool
members_pass q no_members = true
members_pass q (member k u ms) = q (member_at k u) && members_pass q ms

abbrev pub items_pass : (Child → Bool) → ℕ → Items → Bool
items_pass q i no_items = true
items_pass q i (item u us) = q (item_at i u) && items_pass q (suc i) us

abbrev pub children_pass : (Child → Bool) → Tree → Bool
children_pass q (object ms) = members_pass q ms
children_pass q (array us) = items_pass q 0 us
children_pass q _ = true

abbrev pub rest_accepted : Tree → Answers → Tree → Tree → Bool
rest_accepted root a s t = children_pass (rest_accepts root a s t) t
