-- The message about a line that is rejected.
use Rattle.std.specs.Fmt.{decimal}
use Rattle.std.specs.Prelude.{ℕ, List, [], ◌∷◌, ◌++◌, Option, Some, None, codes}
use Rattle.std.specs.Str.{chars}
use Rattle.tinyjson.specs.Characters.{line_feed}
use Rattle.tinyjson.specs.Error.{error_kind, error_position, kind_message}
use Rattle.tinyjson_cli.specs.Shown.{shown}
use Rattle.tinyjson_lines.specs.Refusal.{refusal_message}
use Rattle.tinyjson_lines.specs.declared.refusal.Cause.{Cause}
use Rattle.tinyjson_lines.specs.declared.refusal.Cause.TheVariants.{NotUtf8, NotJson, TooLong}
use Rattle.tinyjson_lines.specs.declared.refusal.Refusal.{Refusal}

-- why a line of a file is rejected, after its number
abbrev pub placed_cause : Cause → List ℕ
placed_cause NotUtf8 = codes ": not UTF-8"
placed_cause (TooLong max) = codes ": longer than " ++ (decimal max ++ codes " bytes")
placed_cause (NotJson e) = codes ":" ++ (decimal (error_position e).column ++ (codes ": " ++ kind_message (error_kind e)))

-- the message of the program with this name, about a line of the file with this name or of standard input
abbrev pub refusal_text : List ℕ → Option (List ℕ) → Refusal → List ℕ
refusal_text program None r = program ++ (codes ": " ++ refusal_message r)
refusal_text program (Some file) r = shown (chars file) ++ (codes ":" ++ (decimal r.number ++ placed_cause r.cause))

abbrev pub refusal_line : List ℕ → Option (List ℕ) → Refusal → List ℕ
refusal_line program file r = refusal_text program file r ++ line_feed ∷ []
