-- What a contract sees of an error of the parser, and its message.
use Rattle.std.specs.Prelude.{ℕ, List, ◌++◌, codes}
use Rattle.std.specs.Fmt.{decimal}
use Rattle.tinyjson_grammar.specs.Position.{Position, position_at}
use Rattle.tinyjson.specs.declared.parser.error.JsonParseError.{JsonParseError}
pub use Rattle.tinyjson_grammar.specs.Message.{code_point, shown, kind_message}
pub use Rattle.tinyjson_grammar.specs.declared.error.JsonParseErrorKind.{JsonParseErrorKind}

abbrev pub error_kind : JsonParseError → JsonParseErrorKind
error_kind e = e.kind

abbrev pub error_position : JsonParseError → Position
error_position e = position_at e.line e.column

-- the message of an error: where it is, and that of its kind
abbrev pub error_message : JsonParseError → List ℕ
error_message e =
    codes "Parse error at line:" ++ (decimal (error_position e).line ++ (codes ", col:" ++
    (decimal (error_position e).column ++ (codes ": " ++ kind_message (error_kind e)))))
