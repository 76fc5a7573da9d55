-- The messages of errors.
use Rattle.std.specs.Prelude.{ℕ, List, ◌++◌, codes, encode_utf8_all}
use Rattle.tinyjson_pointer.specs.Text.{pointer_text}
use Rattle.tinyjson_pointer.specs.Tokens.{tokens_of}
use Rattle.tinyjson_schema.specs.declared.schema.SchemaError.{SchemaError}
use Rattle.tinyjson_schema.specs.declared.schema.SchemaError.TheVariants as schema
use Rattle.tinyjson_schema.specs.declared.walk.CheckError.{CheckError}
use Rattle.tinyjson_schema.specs.declared.walk.CheckError.TheVariants as checking

abbrev pub check_error_message : CheckError → List ℕ
check_error_message checking.TooDeep = codes "schemas are nested too deep"
check_error_message checking.TooMuch = codes "the check takes too many steps"
check_error_message checking.OutOfMemory = codes "out of memory"

abbrev pub schema_error_message : SchemaError → List ℕ
schema_error_message (schema.Refused place) =
    codes "it can't be applied at '" ++ (encode_utf8_all (pointer_text (tokens_of place)) ++ codes "'")
schema_error_message (schema.PatternLimit place) = codes "the pattern at '"
    ++ (encode_utf8_all (pointer_text (tokens_of place)) ++ codes "' is too deep or too large")
schema_error_message schema.OutOfMemory = codes "out of memory"
