-- The names of formats in a schema that are not known.
use Rattle.std.specs.Prelude.{ℕ, List, [], ◌∷◌, ◌++◌, Option, Some, cond, encode_utf8_all, is_some}
use Rattle.text_formats.specs.Format.{format_named}
use Rattle.tinyjson.specs.Tree.{Tree, string}
use Rattle.tinyjson_schema_keywords.specs.Subschemas.{InSchema, schema_members}
use Rattle.tinyjson_schema_keywords.specs.declared.keyword.Keyword.{Keyword}
use Rattle.tinyjson_schema_keywords.specs.declared.keyword.Keyword.TheVariants as kw

abbrev pub unknown_name : List ℕ → List (List ℕ)
unknown_name k = cond (is_some (format_named k)) [] (k ∷ [])

abbrev pub unknown_in : Tree → List (List ℕ)
unknown_in (string cs) = unknown_name (encode_utf8_all cs)
unknown_in _ = []

abbrev pub unknown_at : Option Keyword → Tree → List (List ℕ)
unknown_at (Some kw.Format) w = unknown_in w
unknown_at _ w = []

-- the member's value, if it is at `format` and no format has that name
abbrev pub format_of : InSchema → List (List ℕ)
format_of m = unknown_at m.2 m.3

abbrev pub formats_among : List InSchema → List (List ℕ)
formats_among [] = []
formats_among (m ∷ ms) = format_of m ++ formats_among ms

-- those names, in UTF-8, in a schema and its subschemas
abbrev pub unknown_formats : Tree → List (List ℕ)
unknown_formats t = formats_among (schema_members t)
