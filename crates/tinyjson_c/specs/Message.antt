-- The message of an error at a place.
use Rattle.std.specs.Prelude.{ℕ, ◌==◌, List, ◌++◌, cond, codes}
use Rattle.std.specs.Fmt.{decimal}
use Rattle.tinyjson.specs.Error.{JsonParseErrorKind, kind_message}

-- the message of a kind, and the position of the error if it has one
abbrev pub error_words : JsonParseErrorKind → ℕ → ℕ → List ℕ
error_words kind line column = cond (line == 0) (kind_message kind)
    (codes "Parse error at line:" ++ (decimal line ++ (codes ", col:" ++ (decimal column ++ (codes ": " ++ kind_message kind)))))
