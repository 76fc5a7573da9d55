-- The message about a line that has no answer.
use Rattle.std.specs.Fmt.{decimal}
use Rattle.std.specs.Prelude.{ℕ, List, [], ◌∷◌, ◌++◌, Option, Some, None, codes, string_bytes}
use Rattle.std.specs.Str.{chars}
use Rattle.tinyjson.specs.Characters.{line_feed}
use Rattle.tinyjson_cli.specs.Refusals.{refusal_text}
use Rattle.tinyjson_cli.specs.Shown.{shown}
use Rattle.tinyjson_cli.specs.declared.texts.NoAnswer.{NoAnswer}
use Rattle.tinyjson_cli.specs.declared.texts.NoAnswer.TheVariants.{Refused, No, Failed}

-- the message of the program with this name, about the line of this number of the file with this name or of standard input
abbrev pub unanswered_text : List ℕ → Option (List ℕ) → ℕ → NoAnswer → List ℕ
unanswered_text program file n (Refused c) = refusal_text program file record { number = n; cause = c }
unanswered_text program None n (No w) = program ++ (codes ": line " ++ (decimal n ++ (codes ": " ++ string_bytes w)))
unanswered_text program (Some file) n (No w) = shown (chars file) ++ (codes ":" ++ (decimal n ++ (codes ": " ++ string_bytes w)))
unanswered_text program None n (Failed w) = program ++ (codes ": line " ++ (decimal n ++ (codes ": " ++ string_bytes w)))
unanswered_text program (Some file) n (Failed w) = shown (chars file) ++ (codes ":" ++ (decimal n ++ (codes ": " ++ string_bytes w)))

abbrev pub unanswered_line : List ℕ → Option (List ℕ) → ℕ → NoAnswer → List ℕ
unanswered_line program file n why = unanswered_text program file n why ++ line_feed ∷ []
