-- The result of checking a schema.
use Rattle.std.specs.Prelude.{◌≡◌, Bool, true, false, Result, Ok, Err}
use Rattle.tinyjson.specs.Tree.{Tree}
use Rattle.tinyjson.specs.View.{view}
use Rattle.tinyjson_pointer.specs.Tokens.{tokens_of}
use Rattle.tinyjson_schema_keywords.specs.declared.keyword.Form.TheVariants as form
use Rattle.tinyjson_schema.specs.Refused.{IsRefusedAt, IsAboveAt}
use Rattle.tinyjson_schema.specs.Schemas.{is_schema}
use Rattle.tinyjson_schema.specs.Valid.{Root}
use Rattle.tinyjson_schema.specs.declared.schema.Schema.{Schema}
use Rattle.tinyjson_schema.specs.declared.schema.SchemaError.{SchemaError}
use Rattle.tinyjson_schema.specs.declared.schema.SchemaError.TheVariants.{Refused, PatternLimit, OutOfMemory}

-- the tree of a schema
abbrev pub tree_of : Schema → Tree
tree_of s = view s.whole.root.now

-- the tree as a root schema, in which `format` is an assertion or not
abbrev pub root_in : Schema → Bool → Root
root_in s formats = record { tree = tree_of s; formats = formats }

-- The tree as a schema, which can be applied; or the place of what can't be applied, or of a pattern that is too
-- deep or too large.
abbrev pub ReadsSchema : Tree → Result Schema SchemaError → Type 0
ReadsSchema t (Ok s) = (tree_of s ≡ t) × (is_schema t true t ≡ true)
ReadsSchema t (Err (Refused p)) = (is_schema t true t ≡ false) × IsRefusedAt t true form.Schema t (tokens_of p)
ReadsSchema t (Err (PatternLimit p)) = IsAboveAt form.Schema t (tokens_of p)
ReadsSchema t (Err OutOfMemory) = Unit {0}
