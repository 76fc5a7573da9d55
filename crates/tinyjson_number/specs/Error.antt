-- The messages of the errors.
use Rattle.std.specs.Prelude.{ℕ, List, codes}
use Rattle.tinyjson_number.specs.declared.error.LiteralError.{LiteralError}
use Rattle.tinyjson_number.specs.declared.error.LiteralError.TheVariants as literal
use Rattle.tinyjson_number.specs.declared.error.JsonNumberError.{JsonNumberError}
use Rattle.tinyjson_number.specs.declared.error.JsonNumberError.TheVariants as number

abbrev pub number_error_message : JsonNumberError → List ℕ
number_error_message number.NotANumber = codes "not a JSON number"
number_error_message number.OutOfRange = codes "power of ten out of range"
number_error_message number.OutOfMemory = codes "out of memory"

abbrev pub literal_error_message : LiteralError → List ℕ
literal_error_message literal.OutOfRange = codes "power of ten out of range"
literal_error_message literal.OutOfMemory = codes "out of memory"

-- the same error of any text
abbrev pub of_literal : LiteralError → JsonNumberError
of_literal literal.OutOfRange = number.OutOfRange
of_literal literal.OutOfMemory = number.OutOfMemory
