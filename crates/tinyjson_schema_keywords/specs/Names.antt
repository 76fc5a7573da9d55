-- The names of the keywords.
use Rattle.std.specs.Cmp.Lexicographic.{slice_cmp}
use Rattle.std.specs.Ordering.{nat_cmp, is_lt}
use Rattle.std.specs.Prelude.{ℕ, Bool, true, not, ◌&&◌, List, [], ◌∷◌, Option, Some, None, cond, is_some, codes}
use Rattle.std.specs.Str.{bytes_eq}
use Rattle.tinyjson_schema_keywords.specs.declared.keyword.Keyword.{Keyword}
use Rattle.tinyjson_schema_keywords.specs.declared.keyword.Keyword.TheVariants as kw

abbrev pub name : Keyword → List ℕ
name kw.Schema = codes "$schema"
name kw.Id = codes "$id"
name kw.Comment = codes "$comment"
name kw.Defs = codes "$defs"
name kw.Definitions = codes "definitions"
name kw.Ref = codes "$ref"
name kw.Anchor = codes "$anchor"
name kw.DynamicRef = codes "$dynamicRef"
name kw.DynamicAnchor = codes "$dynamicAnchor"
name kw.Vocabulary = codes "$vocabulary"
name kw.AllOf = codes "allOf"
name kw.AnyOf = codes "anyOf"
name kw.OneOf = codes "oneOf"
name kw.Not = codes "not"
name kw.If = codes "if"
name kw.Then = codes "then"
name kw.Else = codes "else"
name kw.DependentSchemas = codes "dependentSchemas"
name kw.PrefixItems = codes "prefixItems"
name kw.Items = codes "items"
name kw.Contains = codes "contains"
name kw.Properties = codes "properties"
name kw.PatternProperties = codes "patternProperties"
name kw.AdditionalProperties = codes "additionalProperties"
name kw.PropertyNames = codes "propertyNames"
name kw.UnevaluatedItems = codes "unevaluatedItems"
name kw.UnevaluatedProperties = codes "unevaluatedProperties"
name kw.Type = codes "type"
name kw.Enum = codes "enum"
name kw.Const = codes "const"
name kw.MultipleOf = codes "multipleOf"
name kw.Maximum = codes "maximum"
name kw.ExclusiveMaximum = codes "exclusiveMaximum"
name kw.Minimum = codes "minimum"
name kw.ExclusiveMinimum = codes "exclusiveMinimum"
name kw.MaxLength = codes "maxLength"
name kw.MinLength = codes "minLength"
name kw.Pattern = codes "pattern"
name kw.MaxItems = codes "maxItems"
name kw.MinItems = codes "minItems"
name kw.UniqueItems = codes "uniqueItems"
name kw.MaxContains = codes "maxContains"
name kw.MinContains = codes "minContains"
name kw.MaxProperties = codes "maxProperties"
name kw.MinProperties = codes "minProperties"
name kw.Required = codes "required"
name kw.DependentRequired = codes "dependentRequired"
name kw.Format = codes "format"
name kw.ContentEncoding = codes "contentEncoding"
name kw.ContentMediaType = codes "contentMediaType"
name kw.ContentSchema = codes "contentSchema"
name kw.Title = codes "title"
name kw.Description = codes "description"
name kw.Default = codes "default"
name kw.Deprecated = codes "deprecated"
name kw.ReadOnly = codes "readOnly"
name kw.WriteOnly = codes "writeOnly"
name kw.Examples = codes "examples"

-- all keywords, in the order of their names' bytes
abbrev pub keywords : List Keyword
keywords = kw.Anchor ∷ kw.Comment ∷ kw.Defs ∷ kw.DynamicAnchor ∷ kw.DynamicRef ∷ kw.Id ∷ kw.Ref ∷ kw.Schema ∷ kw.Vocabulary ∷
    kw.AdditionalProperties ∷ kw.AllOf ∷ kw.AnyOf ∷ kw.Const ∷ kw.Contains ∷ kw.ContentEncoding ∷ kw.ContentMediaType ∷
    kw.ContentSchema ∷ kw.Default ∷ kw.Definitions ∷ kw.DependentRequired ∷ kw.DependentSchemas ∷ kw.Deprecated ∷ kw.Description ∷ kw.Else ∷
    kw.Enum ∷ kw.Examples ∷ kw.ExclusiveMaximum ∷ kw.ExclusiveMinimum ∷ kw.Format ∷ kw.If ∷ kw.Items ∷ kw.MaxContains ∷
    kw.MaxItems ∷ kw.MaxLength ∷ kw.MaxProperties ∷ kw.Maximum ∷ kw.MinContains ∷ kw.MinItems ∷ kw.MinLength ∷
    kw.MinProperties ∷ kw.Minimum ∷ kw.MultipleOf ∷ kw.Not ∷ kw.OneOf ∷ kw.Pattern ∷ kw.PatternProperties ∷ kw.PrefixItems ∷
    kw.Properties ∷ kw.PropertyNames ∷ kw.ReadOnly ∷ kw.Required ∷ kw.Then ∷ kw.Title ∷ kw.Type ∷ kw.UnevaluatedItems ∷
    kw.UnevaluatedProperties ∷ kw.UniqueItems ∷ kw.WriteOnly ∷ []

-- the first of the keywords with the name
abbrev pub keyword_among : List Keyword → List ℕ → Option Keyword
keyword_among [] key = None
keyword_among (k ∷ ks) key = cond (bytes_eq (name k) key) (Some k) (keyword_among ks key)

-- ---- for private contracts

-- Their names rise.
abbrev pub is_rising : List Keyword → Bool
is_rising (k ∷ l ∷ ks) = not (is_lt (slice_cmp nat_cmp (name l) (name k))) && is_rising (l ∷ ks)
is_rising _ = true

-- No two have the same name.
abbrev pub are_apart : List Keyword → Bool
are_apart [] = true
are_apart (k ∷ ks) = not (is_some (keyword_among ks (name k))) && are_apart ks
