-- The messages of errors.
use Rattle.std.specs.Prelude.{ℕ, List, ◌++◌, codes}
use Rattle.std.specs.Fmt.{decimal}
use Rattle.tinyjson_path_query.specs.declared.error.ParseError.{ParseError}
use Rattle.tinyjson_path_query.specs.declared.error.ParseErrorKind.{ParseErrorKind}
use Rattle.tinyjson_path_query.specs.declared.error.ParseErrorKind.TheVariants.{Syntax, UnknownFunction, ArgumentCount}
use Rattle.tinyjson_path_query.specs.declared.error.ParseErrorKind.TheVariants.{TypeMismatch, IndexOutOfRange, NumberOutOfRange}
use Rattle.tinyjson_path_query.specs.declared.error.ParseErrorKind.TheVariants.{TooDeep, OutOfMemory}

-- the message of a kind
abbrev pub kind_message : ParseErrorKind → List ℕ
kind_message Syntax = codes "a syntax error"
kind_message UnknownFunction = codes "an unknown function"
kind_message ArgumentCount = codes "a wrong number of arguments"
kind_message TypeMismatch = codes "types that do not fit"
kind_message IndexOutOfRange = codes "an index that is out of range"
kind_message NumberOutOfRange = codes "a number whose power of ten is out of range"
kind_message TooDeep = codes "more than 64 nested expressions"
kind_message OutOfMemory = codes "out of memory"

-- the message of an error: that of its kind, and its place
abbrev pub error_message : ParseError → List ℕ
error_message e = kind_message e.kind ++ (codes " at character " ++ decimal e.place)
