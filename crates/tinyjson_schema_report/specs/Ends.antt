-- Where a place in a schema ends (Core, 12.3.2): its tokens lead from the whole schema by keywords, and from a
-- reference on in the schema to which it leads.
use Rattle.std.specs.Prelude.{ℕ, Bool, true, false, List, [], ◌∷◌, Option, Some, None, cond, option_map, option_and_then, encode_utf8_all}
use Rattle.tinyjson.specs.Tree.{Tree}
use Rattle.tinyjson.specs.View.{view}
use Rattle.tinyjson_pointer.specs.Walk.{step}
use Rattle.tinyjson_schema_keywords.specs.Forms.{form_by}
use Rattle.tinyjson_schema_keywords.specs.Names.{keywords, keyword_among}
use Rattle.tinyjson_schema_keywords.specs.References.{referenced}
use Rattle.tinyjson_schema_keywords.specs.declared.keyword.Form.{Form}
use Rattle.tinyjson_schema_keywords.specs.declared.keyword.Form.TheVariants as form
use Rattle.tinyjson_schema_keywords.specs.declared.keyword.Keyword.{Keyword}
use Rattle.tinyjson_schema_keywords.specs.declared.keyword.Keyword.TheVariants as kw
use Rattle.tinyjson_schema_report.specs.declared.ending.End.{End}

-- the value of a keyword, or a schema that no keyword has as its value
abbrev pub At : Type 0
At = Option Keyword × Tree

abbrev pub ending : End → At
ending e = (e.keyword, view e.value.now)

abbrev pub is_holder : Form → Bool
is_holder form.Schemas = true
is_holder form.SchemaMap = true
is_holder form.PatternMap = true
is_holder _ = false

-- the keyword has a list or an object of schemas
abbrev pub holds_more : Option Keyword → Bool
holds_more k = is_holder (form_by k)

-- the keyword that the token names
abbrev pub keyword_in : Option Keyword → List ℕ → Option Keyword
keyword_in k l = cond (holds_more k) None (keyword_among keywords (encode_utf8_all l))

-- what the token names in the tree; of a reference the schema to which it leads
abbrev pub value_in : Tree → Option Keyword → Tree → List ℕ → Option Tree
value_in root (Some kw.Ref) t l = referenced root kw.Ref t
value_in root (Some kw.DynamicRef) t l = referenced root kw.DynamicRef t
value_in root k t l = step t l

-- where one more token leads
abbrev pub goes_on : Tree → At → List ℕ → Option At
goes_on root at l = option_map (λ u. (keyword_in at.0 l, u)) (value_in root (keyword_in at.0 l) at.1 l)

-- where the tokens lead
abbrev pub ends_at : Tree → At → List (List ℕ) → Option At
ends_at root at [] = Some at
ends_at root at (l ∷ ls) = option_and_then (λ next. ends_at root next ls) (goes_on root at l)

abbrev pub ends_from : Tree → List (List ℕ) → Option At
ends_from root ls = ends_at root (None, root) ls
