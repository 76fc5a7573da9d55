-- The form that each keyword's value needs.
use Rattle.std.specs.Prelude.{ℕ, Bool, true, false, List, Option}
use Rattle.std.specs.Option.{option_map_or}
use Rattle.tinyjson.specs.Tree.{Items, no_items, item}
use Rattle.tinyjson_schema_keywords.specs.Names.{keywords, keyword_among}
use Rattle.tinyjson_schema_keywords.specs.declared.keyword.Form.{Form}
use Rattle.tinyjson_schema_keywords.specs.declared.keyword.Form.TheVariants as form
use Rattle.tinyjson_schema_keywords.specs.declared.keyword.Keyword.{Keyword}
use Rattle.tinyjson_schema_keywords.specs.declared.keyword.Keyword.TheVariants as kw

abbrev pub form_of : Keyword → Form
form_of kw.Schema = form.Dialect
form_of kw.Id = form.Base
form_of kw.Comment = form.Text
form_of kw.Defs = form.SchemaMap
form_of kw.Definitions = form.SchemaMap
form_of kw.Ref = form.Reference
form_of kw.Anchor = form.Anchor
form_of kw.DynamicRef = form.Reference
form_of kw.DynamicAnchor = form.Anchor
form_of kw.Vocabulary = form.Anything
form_of kw.AllOf = form.Schemas
form_of kw.AnyOf = form.Schemas
form_of kw.OneOf = form.Schemas
form_of kw.Not = form.Schema
form_of kw.If = form.Schema
form_of kw.Then = form.Schema
form_of kw.Else = form.Schema
form_of kw.DependentSchemas = form.SchemaMap
form_of kw.PrefixItems = form.Schemas
form_of kw.Items = form.Schema
form_of kw.Contains = form.Schema
form_of kw.Properties = form.SchemaMap
form_of kw.PatternProperties = form.PatternMap
form_of kw.AdditionalProperties = form.Schema
form_of kw.PropertyNames = form.Schema
form_of kw.UnevaluatedItems = form.Schema
form_of kw.UnevaluatedProperties = form.Schema
form_of kw.Type = form.Types
form_of kw.Enum = form.List
form_of kw.Const = form.Anything
form_of kw.MultipleOf = form.Divisor
form_of kw.Maximum = form.Number
form_of kw.ExclusiveMaximum = form.Number
form_of kw.Minimum = form.Number
form_of kw.ExclusiveMinimum = form.Number
form_of kw.MaxLength = form.Count
form_of kw.MinLength = form.Count
form_of kw.Pattern = form.Pattern
form_of kw.MaxItems = form.Count
form_of kw.MinItems = form.Count
form_of kw.UniqueItems = form.Truth
form_of kw.MaxContains = form.Count
form_of kw.MinContains = form.Count
form_of kw.MaxProperties = form.Count
form_of kw.MinProperties = form.Count
form_of kw.Required = form.Keys
form_of kw.DependentRequired = form.KeyLists
form_of kw.Format = form.Text
form_of kw.ContentEncoding = form.Text
form_of kw.ContentMediaType = form.Text
form_of kw.ContentSchema = form.Schema
form_of kw.Title = form.Text
form_of kw.Description = form.Text
form_of kw.Default = form.Anything
form_of kw.Deprecated = form.Truth
form_of kw.ReadOnly = form.Truth
form_of kw.WriteOnly = form.Truth
form_of kw.Examples = form.List

-- the form that the keyword's value needs; none without a keyword
abbrev pub form_by : Option Keyword → Form
form_by k = option_map_or form_of k form.Anything

-- the form that the value at the name with these bytes needs
abbrev pub form_at : List ℕ → Form
form_at key = form_by (keyword_among keywords key)

abbrev pub is_some_item : Items → Bool
is_some_item no_items = false
is_some_item (item t ts) = true
