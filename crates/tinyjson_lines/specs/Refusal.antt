-- The messages about lines that are rejected.
use Rattle.std.specs.Prelude.{ℕ, List, ◌++◌, codes}
use Rattle.std.specs.Fmt.{decimal}
use Rattle.tinyjson.specs.Error.{error_kind, error_position, kind_message}
use Rattle.tinyjson_lines.specs.declared.refusal.Cause.{Cause}
use Rattle.tinyjson_lines.specs.declared.refusal.Cause.TheVariants.{NotUtf8, NotJson, TooLong}
use Rattle.tinyjson_lines.specs.declared.refusal.Refusal.{Refusal}

-- the message after the line's number: where the parser stopped in the line, and the kind of the error; or the limit
abbrev pub cause_message : Cause → List ℕ
cause_message NotUtf8 = codes ": not UTF-8"
cause_message (TooLong max) = codes ": longer than " ++ (decimal max ++ codes " bytes")
cause_message (NotJson e) = codes ", col " ++ (decimal (error_position e).column ++ (codes ": " ++ kind_message (error_kind e)))

-- the number of the line, and why it is rejected
abbrev pub refusal_message : Refusal → List ℕ
refusal_message r = codes "line " ++ (decimal r.number ++ cause_message r.cause)
