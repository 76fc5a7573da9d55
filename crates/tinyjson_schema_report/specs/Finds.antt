-- What a value violates of a schema, with the words.
use Rattle.std.specs.Prelude.{ℕ, Option, Some, None, Result, Ok, Err}
use Rattle.std.specs.String.{string_bytes}
use Rattle.tinyjson.specs.Tree.{Tree}
use Rattle.tinyjson_pointer.specs.Tokens.{tokens_of}
use Rattle.tinyjson_schema.specs.Valid.{Root, plain, ValidatesIn}
use Rattle.tinyjson_schema.specs.declared.walk.CheckError.{CheckError}
use Rattle.tinyjson_schema_report.specs.declared.found.Finding.{Finding}
use Rattle.tinyjson_schema_report.specs.Nearest.{IsWords}

-- the words are those of the violation of the schema s by the tree t
abbrev pub HasWords : Tree → Tree → Finding → Type 0
HasWords s t f =
    IsWords s t (tokens_of f.violation.keyword_location) (tokens_of f.violation.instance_location) (string_bytes f.words)

-- No violation, and the root schema accepts t; or a violation within n nested schemas, and it does not.
abbrev pub FindsIn : ℕ → Root → Tree → Result (Option Finding) CheckError → Type 0
FindsIn n root t (Ok None) = ValidatesIn n root t (Ok None)
FindsIn n root t (Ok (Some f)) = ValidatesIn n root t (Ok (Some f.violation)) × HasWords root.tree t f
FindsIn n root t (Err e) = ValidatesIn n root t (Err e)

-- the same for the schema s, in which `format` asserts nothing
abbrev pub Finds : ℕ → Tree → Tree → Result (Option Finding) CheckError → Type 0
Finds n s = FindsIn n (plain s)
