-- Schemas that apply no others.
use Rattle.std.specs.Prelude.{◌≡◌, None}
use Rattle.tinyjson.specs.Tree.{Tree}
use Rattle.tinyjson_schema_keywords.specs.Applied.{schema_at}
use Rattle.tinyjson_schema_keywords.specs.declared.keyword.Keyword.TheVariants as kw

-- The schema has no keyword that counts or combines what its subschemas accept.
pub record TestsNothing (s : Tree) : Type 0 where
  pub any_of : schema_at s kw.AnyOf ≡ None
  pub one_of : schema_at s kw.OneOf ≡ None
  pub not_of : schema_at s kw.Not ≡ None
  pub names : schema_at s kw.PropertyNames ≡ None
  pub contains : schema_at s kw.Contains ≡ None

-- The schema has none of the keywords whose violations are within a schema for the value itself, or for what a pattern
-- matches.
pub record DemandsNothing (s : Tree) : Type 0 where
  pub all_of : schema_at s kw.AllOf ≡ None
  pub if_of : schema_at s kw.If ≡ None
  pub dependents : schema_at s kw.DependentSchemas ≡ None
  pub patterns : schema_at s kw.PatternProperties ≡ None

-- The schema has no reference.
pub record RefersNowhere (s : Tree) : Type 0 where
  pub reference : schema_at s kw.Ref ≡ None
  pub dynamic : schema_at s kw.DynamicRef ≡ None

-- The schema applies no other.
pub record AppliesNothing (s : Tree) : Type 0 where
  pub tests : TestsNothing s
  pub demands : DemandsNothing s
  pub references : RefersNowhere s
  pub properties : schema_at s kw.Properties ≡ None
  pub additional : schema_at s kw.AdditionalProperties ≡ None
  pub prefix : schema_at s kw.PrefixItems ≡ None
  pub items : schema_at s kw.Items ≡ None
  pub members_left : schema_at s kw.UnevaluatedProperties ≡ None
  pub items_left : schema_at s kw.UnevaluatedItems ≡ None
