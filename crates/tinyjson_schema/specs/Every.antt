-- Each violation of a schema by a value, in order. A schema that the keywords `allOf`, `if`, `dependentSchemas`, `properties` and so
-- on apply has its own violations; `anyOf`, `oneOf`, `not`, `propertyNames` and `contains` are one violation each.
use Rattle.std.specs.Prelude.{◌≡◌, ◌<◌, ℕ, zero, suc, Bool, not, cond, List, [], ◌∷◌, ◌++◌, is_some, map, take}
use Rattle.std.specs.Option.{option_map_or}
use Rattle.text_iregexp.specs.PatternDeciding.{is_found}
use Rattle.tinyjson.specs.Index.{tree_at_key}
use Rattle.tinyjson.specs.Tree.{Tree, Items, no_items, item, Members, no_members, member}
use Rattle.tinyjson_pointer.specs.Index.{index_of}
use Rattle.tinyjson_pointer.specs.Tokens.{tokens_of}
use Rattle.tinyjson_schema_assertions.specs.Assertions.{meets, assertions}
use Rattle.tinyjson_schema_keywords.specs.Applied.{schema_at, schemas_at, schema_map_at, items_in, members_in, branch}
use Rattle.tinyjson_schema_keywords.specs.Names.{name}
use Rattle.tinyjson_schema_keywords.specs.References.{referenced}
use Rattle.tinyjson_schema_keywords.specs.declared.keyword.Keyword.{Keyword}
use Rattle.tinyjson_schema_keywords.specs.declared.keyword.Keyword.TheVariants as kw
use Rattle.tinyjson_schema.specs.Applicators.{Judge, applies, tests}
use Rattle.tinyjson_schema.specs.Evaluated.{Answers, Child, member_at, item_at, others_evaluate}
use Rattle.tinyjson_schema.specs.Parts.{property, additional, prefix_item, is_by_part}
use Rattle.tinyjson_schema.specs.Valid.{Root, refuses_all, judge, answers, IsValidIn}
use Rattle.tinyjson_schema.specs.declared.violation.Violation.{Violation}

-- a token of a place: an index, or another text
pub data Token : Type 0 where
  key : List ℕ → Token
  index : ℕ → Token

abbrev pub token : List ℕ → Token
token k = option_map_or index (index_of k) (key k)

abbrev pub word : Keyword → Token
word k = token (name k)

-- a place in the schema, and one in the value
pub record Spot : Type 0 where
  pub in_schema : List Token
  pub in_value : List Token

abbrev pub spot_of : Violation → Spot
spot_of v = record { in_schema = map token (tokens_of v.keyword_location); in_value = map token (tokens_of v.instance_location) }

abbrev pub here : Spot
here = record { in_schema = []; in_value = [] }

abbrev pub at_keyword : Keyword → Spot
at_keyword k = record { in_schema = word k ∷ []; in_value = [] }

-- A schema, the value that it is applied to, and their places in the schema and the value around them
pub record Use : Type 0 where
  pub in_schema : List Token
  pub in_value : List Token
  pub schema : Tree
  pub value : Tree

-- for the value itself
abbrev pub same : List Token → Tree → Tree → Use
same ks r t = record { in_schema = ks; in_value = []; schema = r; value = t }

-- for the part that the token names
abbrev pub within : List Token → Token → Tree → Tree → Use
within ks k r u = record { in_schema = ks; in_value = k ∷ []; schema = r; value = u }

-- the schema that the applicator has for the part
abbrev pub by : Keyword → Token → Tree → Tree → Use
by a k r u = within (word a ∷ cond (is_by_part a) (k ∷ []) []) k r u

-- `allOf` (Core, 10.2.1.1); the first schema has the index i
abbrev pub all_uses : ℕ → Items → Tree → List Use
all_uses i no_items t = []
all_uses i (item r rs) t = same (word kw.AllOf ∷ index i ∷ []) r t ∷ all_uses (suc i) rs t

-- the keyword's schema, if there is one
abbrev pub uses_at : Keyword → Tree → Tree → List Use
uses_at k s t = option_map_or (λ r. same (word k ∷ []) r t ∷ []) (schema_at s k) []

-- the schema that `if` chooses (10.2.2)
abbrev pub branch_uses : Judge → Tree → Tree → List Use
branch_uses f s t = option_map_or (λ r. uses_at (branch (f r t)) s t) (schema_at s kw.If) []

-- `dependentSchemas`, for the keys that the value has (10.2.2.4)
abbrev pub dependent_uses : Members → Tree → List Use
dependent_uses no_members t = []
dependent_uses (member k r rs) t =
    cond (is_some (tree_at_key t k)) (same (word kw.DependentSchemas ∷ token k ∷ []) r t ∷ []) [] ++ dependent_uses rs t

-- a schema of `patternProperties`, for the members whose key its pattern matches (10.3.2.2)
abbrev pub found_uses : List ℕ → Tree → Members → List Use
found_uses p r no_members = []
found_uses p r (member k u ms) =
    cond (is_found p k) (within (word kw.PatternProperties ∷ token p ∷ []) (token k) r u ∷ []) [] ++ found_uses p r ms

abbrev pub pattern_uses : Members → Members → List Use
pattern_uses no_members ms = []
pattern_uses (member p r rs) ms = found_uses p r ms ++ pattern_uses rs ms

-- the schema to which the reference leads (8.2.3)
abbrev pub target_uses : Tree → Keyword → Tree → Tree → List Use
target_uses root k s t = option_map_or (λ r. same (word k ∷ []) r t ∷ []) (referenced root k s) []

-- `properties`, or else `additionalProperties` (10.3.2)
abbrev pub uses_of_member : Tree → List ℕ → Tree → List Use
uses_of_member s k u = option_map_or (λ r. by kw.Properties (token k) r u ∷ []) (property s k)
    (option_map_or (λ r. by kw.AdditionalProperties (token k) r u ∷ []) (additional s k) [])

abbrev pub member_uses : Tree → Members → List Use
member_uses s no_members = []
member_uses s (member k u ms) = uses_of_member s k u ++ member_uses s ms

-- `prefixItems`, or else `items` (10.3.1)
abbrev pub uses_of_item : Tree → ℕ → Tree → List Use
uses_of_item s i u = option_map_or (λ r. by kw.PrefixItems (index i) r u ∷ []) (prefix_item s i)
    (option_map_or (λ r. by kw.Items (index i) r u ∷ []) (schema_at s kw.Items) [])

abbrev pub item_uses : Tree → ℕ → Items → List Use
item_uses s i no_items = []
item_uses s i (item u us) = uses_of_item s i u ++ item_uses s (suc i) us

-- `unevaluatedProperties` and `unevaluatedItems`, for what nothing else evaluates (11.2 and 11.3)
abbrev pub left_members : (Child → Bool) → Tree → Members → List Use
left_members q r no_members = []
left_members q r (member k u ms) =
    cond (not (q (member_at k u))) (by kw.UnevaluatedProperties (token k) r u ∷ []) [] ++ left_members q r ms

abbrev pub left_items : (Child → Bool) → Tree → ℕ → Items → List Use
left_items q r i no_items = []
left_items q r i (item u us) =
    cond (not (q (item_at i u))) (by kw.UnevaluatedItems (index i) r u ∷ []) [] ++ left_items q r (suc i) us

abbrev pub rest_members : (Child → Bool) → Tree → Tree → List Use
rest_members q s t = option_map_or (λ r. left_members q r (members_in t)) (schema_at s kw.UnevaluatedProperties) []

abbrev pub rest_items : (Child → Bool) → Tree → Tree → List Use
rest_items q s t = option_map_or (λ r. left_items q r 0 (items_in t)) (schema_at s kw.UnevaluatedItems) []

-- the schemas that s applies to t and its parts, given the results a of schemas
abbrev pub uses : Tree → Answers → Tree → Tree → List Use
uses root a s t = all_uses 0 (schemas_at s kw.AllOf) t ++ (branch_uses a.accepts s t
    ++ (dependent_uses (schema_map_at s kw.DependentSchemas) t
    ++ (pattern_uses (schema_map_at s kw.PatternProperties) (members_in t)
    ++ (target_uses root kw.Ref s t ++ (target_uses root kw.DynamicRef s t
    ++ (member_uses s (members_in t) ++ (item_uses s 0 (items_in t)
    ++ (rest_members (others_evaluate root a s t) s t ++ rest_items (others_evaluate root a s t) s t))))))))

-- the keywords that fail the test
abbrev pub failing : (Keyword → Bool) → List Keyword → List Keyword
failing q [] = []
failing q (k ∷ ks) = cond (q k) [] (k ∷ []) ++ failing q ks

-- the keywords of s that t violates itself
abbrev pub own : Root → Judge → Tree → Tree → List Keyword
own root f s t = failing (λ k. meets k s t) (assertions root.formats) ++ failing (λ k. applies f k s t) tests

abbrev pub under : Use → Spot → Spot
under u x = record { in_schema = u.in_schema ++ x.in_schema; in_value = u.in_value ++ x.in_value }

-- the violations f of each, at their places
abbrev pub spread : (Use → List Spot) → List Use → List Spot
spread f [] = []
spread f (u ∷ us) = map (under u) (f u) ++ spread f us

-- The violations of the schema s in the root schema by the tree t, with up to this many nested schemas; what g does not accept is one.
abbrev pub every : Root → ℕ → Answers → Tree → Tree → List Spot
every root zero g s t = cond (g.accepts s t) [] (here ∷ [])
every root (suc n) g s t = cond (refuses_all s) (here ∷ [])
    (map at_keyword (own root (judge root n g) s t)
    ++ spread (λ u. every root n g u.schema u.value) (uses root.tree (answers root n g) s t))

-- They are the first ones, up to the limit, of the violations of the root schema by t.
abbrev pub AreFirst : ℕ → Root → ℕ → Tree → List Violation → Type 0
AreFirst limit root n t vs = (g : Answers) → map spot_of vs ≡ take limit (every root n g root.tree t)

-- There is none exactly where t is valid against the root schema, unless no violation is asked for.
abbrev pub AreNoneIfValid : ℕ → Root → Tree → List Violation → Type 0
AreNoneIfValid limit root t vs = 0 < limit → (vs ≡ [] → IsValidIn root t) × (IsValidIn root t → vs ≡ [])
