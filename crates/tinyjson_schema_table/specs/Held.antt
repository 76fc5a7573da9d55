-- The keywords that a check looks up beside the assertions.
use Rattle.std.specs.Prelude.{Bool, true, false, ◌&&◌, List, [], ◌∷◌, Option, Some, None, map}
use Rattle.tinyjson.specs.Equality.{tree_eq}
use Rattle.tinyjson.specs.Tree.{Tree}
use Rattle.tinyjson_schema_keywords.specs.Applied.{schema_at}
use Rattle.tinyjson_schema_keywords.specs.declared.keyword.Keyword.{Keyword}
use Rattle.tinyjson_schema_keywords.specs.declared.keyword.Keyword.TheVariants as kw

abbrev pub held : List Keyword
held = kw.Properties ∷ kw.AnyOf ∷ kw.OneOf ∷ kw.Items ∷ kw.AllOf ∷ kw.PrefixItems ∷ kw.PatternProperties ∷ kw.DependentSchemas ∷ kw.Not
    ∷ kw.If ∷ kw.Then ∷ kw.Else ∷ kw.Contains ∷ kw.AdditionalProperties ∷ kw.PropertyNames
    ∷ kw.UnevaluatedItems ∷ kw.UnevaluatedProperties ∷ kw.Ref ∷ kw.DynamicRef ∷ kw.MinContains ∷ kw.MaxContains ∷ []

-- their values in the schema
abbrev pub values_of : Tree → List (Option Tree)
values_of s = map (schema_at s) held

-- both are there and equal, or neither is there
abbrev pub is_value : Option Tree → Option Tree → Bool
is_value None None = true
is_value (Some t) (Some u) = tree_eq t u
is_value _ _ = false

abbrev pub are_values : List (Option Tree) → List (Option Tree) → Bool
are_values [] [] = true
are_values (o ∷ os) (p ∷ ps) = is_value o p && are_values os ps
are_values _ _ = false
