-- The keywords that apply schemas, given the results of those schemas (JSON Schema 2020-12, Core, section 10). A
-- keyword that is missing accepts every value; so does an empty list or object of schemas, and one of another form.
use Rattle.std.specs.Prelude.{ℕ, suc, ◌+◌, ◌==◌, Bool, true, false, not, ◌&&◌, ◌||◌, List}
use Rattle.std.specs.Prelude.{[], ◌∷◌, Option, Some, None, cond, is_some, length}
use Rattle.std.specs.Prelude.{option_and_then}
use Rattle.std.specs.Option.{option_map_or}
use Rattle.tinyjson.specs.Index.{tree_at_key}
use Rattle.tinyjson.specs.Tree.{Tree, number, string, array, object, Items, no_items, item, Members, no_members, member}
use Rattle.text_iregexp.specs.PatternDeciding.{is_found}
use Rattle.tinyjson_schema_keywords.specs.Forms.{is_some_item}
use Rattle.tinyjson_schema_keywords.specs.Applied.{schema_at, schemas_at, schema_map_at, members_in, branch}
use Rattle.tinyjson_schema_keywords.specs.declared.keyword.Keyword.{Keyword}
use Rattle.tinyjson_schema_keywords.specs.declared.keyword.Keyword.TheVariants as kw
use Rattle.tinyjson_schema_assertions.specs.Assertions.{is_count_at_most, is_count_at_least}
use Rattle.tinyjson_schema.specs.Parts.{member_schema, item_schema}

-- whether a schema, the first tree, accepts a value
abbrev pub Judge : Type 0
Judge = Tree → Tree → Bool

-- each of the schemas accepts the value, or one does
abbrev pub all_accept : Judge → Items → Tree → Bool
all_accept f no_items t = true
all_accept f (item r rs) t = f r t && all_accept f rs t

abbrev pub some_accepts : Judge → Items → Tree → Bool
some_accepts f no_items t = false
some_accepts f (item r rs) t = f r t || some_accepts f rs t

abbrev pub any_of : Judge → Items → Tree → Bool
any_of f rs t = not (is_some_item rs) || some_accepts f rs t

-- how many of the schemas accept the value
abbrev pub accepting : Judge → Items → Tree → ℕ
accepting f no_items t = 0
accepting f (item r rs) t = cond (f r t) 1 0 + accepting f rs t

abbrev pub one_of : Judge → Items → Tree → Bool
one_of f rs t = not (is_some_item rs) || accepting f rs t == 1

-- each key of an object passes the test
abbrev pub keys_pass : (Tree → Bool) → Members → Bool
keys_pass p no_members = true
keys_pass p (member k u ms) = p (string k) && keys_pass p ms

-- how many items pass the test
abbrev pub passing : (Tree → Bool) → Items → ℕ
passing p no_items = 0
passing p (item u us) = cond (p u) 1 0 + passing p us

abbrev pub items_passing : (Tree → Bool) → Tree → Option ℕ
items_passing p (array us) = Some (passing p us)
items_passing p _ = None

-- how many items of an array the schema of `contains` accepts; none without `contains`, or if the value is no array
abbrev pub contained : Judge → Tree → Tree → Option ℕ
contained f s t = option_and_then (λ r. items_passing (f r) t) (schema_at s kw.Contains)

abbrev pub is_zero : Tree → Bool
is_zero (number d) = length d.digits == 0
is_zero _ = false

-- the count is at least 1, unless `minContains` is 0; at most `maxContains`; at least `minContains`
abbrev pub contains_some : Option ℕ → Tree → Bool
contains_some count s = option_map_or is_zero (schema_at s kw.MinContains) false || option_map_or (λ n. not (n == 0)) count true

abbrev pub contains_at_most : Option ℕ → Tree → Bool
contains_at_most count s = option_map_or (λ w. is_count_at_most count w) (schema_at s kw.MaxContains) true

abbrev pub contains_at_least : Option ℕ → Tree → Bool
contains_at_least count s = option_map_or (λ w. is_count_at_least count w) (schema_at s kw.MinContains) true

abbrev pub branch_accepts : Judge → Tree → Tree → Bool → Bool
branch_accepts f s t accepted = option_map_or (λ r. f r t) (schema_at s (branch accepted)) true

-- for each key that the value has, the schema of `dependentSchemas` accepts the value
abbrev pub dependents_accept : Judge → Members → Tree → Bool
dependents_accept f no_members t = true
dependents_accept f (member k r rs) t = (not (is_some (tree_at_key t k)) || f r t) && dependents_accept f rs t

-- each member passes the test whose key the pattern p matches
abbrev pub found_pass : (Tree → Bool) → List ℕ → Members → Bool
found_pass q p no_members = true
found_pass q p (member k u ms) = (not (is_found p k) || q u) && found_pass q p ms

-- for each pattern, its schema accepts those members
abbrev pub patterns_accept : Judge → Members → Members → Bool
patterns_accept f no_members ms = true
patterns_accept f (member p r rs) ms = found_pass (f r) p ms && patterns_accept f rs ms

-- The value t meets the keyword of the schema s.
abbrev pub applies : Judge → Keyword → Tree → Tree → Bool
applies f kw.AllOf s t = all_accept f (schemas_at s kw.AllOf) t  -- 10.2.1.1
applies f kw.AnyOf s t = any_of f (schemas_at s kw.AnyOf) t  -- 10.2.1.2
applies f kw.OneOf s t = one_of f (schemas_at s kw.OneOf) t  -- 10.2.1.3
applies f kw.Not s t = option_map_or (λ r. not (f r t)) (schema_at s kw.Not) true  -- 10.2.1.4
applies f kw.If s t = option_map_or (λ r. branch_accepts f s t (f r t)) (schema_at s kw.If) true  -- 10.2.2.1 to 10.2.2.3
applies f kw.DependentSchemas s t = dependents_accept f (schema_map_at s kw.DependentSchemas) t  -- 10.2.2.4
applies f kw.Contains s t = contains_some (contained f s t) s  -- 10.3.1.3
applies f kw.MaxContains s t = contains_at_most (contained f s t) s  -- Validation, 6.4.4
applies f kw.MinContains s t = contains_at_least (contained f s t) s  -- Validation, 6.4.5
applies f kw.PatternProperties s t = patterns_accept f (schema_map_at s kw.PatternProperties) (members_in t)  -- 10.3.2.2
applies f kw.PropertyNames s t = option_map_or (λ r. keys_pass (f r) (members_in t)) (schema_at s kw.PropertyNames) true  -- 10.3.2.4
applies f _ s t = true

abbrev pub apply_all : Judge → List Keyword → Tree → Tree → Bool
apply_all f [] s t = true
apply_all f (k ∷ ks) s t = applies f k s t && apply_all f ks s t

-- `counts` and `tests` only accept or reject; a violation of `demands` has its place within one of their schemas
abbrev pub counts : List Keyword
counts = kw.Contains ∷ kw.MaxContains ∷ kw.MinContains ∷ []

abbrev pub tests : List Keyword
tests = kw.AnyOf ∷ kw.OneOf ∷ kw.Not ∷ kw.PropertyNames ∷ counts

abbrev pub demands : List Keyword
demands = kw.AllOf ∷ kw.If ∷ kw.DependentSchemas ∷ kw.PatternProperties ∷ []

-- the schema for each member and each item accepts it
abbrev pub member_accepted : Judge → Tree → List ℕ → Tree → Bool
member_accepted f s k u = option_map_or (λ r. f r u) (member_schema s k) true

abbrev pub members_accepted : Judge → Tree → Members → Bool
members_accepted f s no_members = true
members_accepted f s (member k u ms) = member_accepted f s k u && members_accepted f s ms

abbrev pub item_accepted : Judge → Tree → ℕ → Tree → Bool
item_accepted f s i u = option_map_or (λ r. f r u) (item_schema s i) true

-- the first of the items has the index i
abbrev pub items_accepted : Judge → Tree → ℕ → Items → Bool
items_accepted f s i no_items = true
items_accepted f s i (item u us) = item_accepted f s i u && items_accepted f s (suc i) us

abbrev pub parts_accepted : Judge → Tree → Tree → Bool
parts_accepted f s (object ms) = members_accepted f s ms
parts_accepted f s (array us) = items_accepted f s 0 us
parts_accepted f s _ = true
