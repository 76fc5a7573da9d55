-- The messages on standard error, of one line each.
use Rattle.std.specs.Fmt.{decimal}
use Rattle.std.specs.Prelude.{ℕ, List, [], ◌∷◌, ◌++◌, Option, None, Some, codes}
use Rattle.std.specs.Str.{chars}
use Rattle.tinyjson.specs.Characters.{line_feed}
use Rattle.tinyjson_cli.specs.Refusals.{refusal_line}
use Rattle.tinyjson_cli.specs.Shown.{shown}
use Rattle.tinyjson_lines.specs.declared.refusal.Cause.TheVariants as line
use Rattle.tinyjson_schema_report.specs.declared.verdict.Cause.{Cause}
use Rattle.tinyjson_schema_report.specs.declared.verdict.Cause.TheVariants.{NotUtf8, NotJson, TooDeep, TooMuch, TooLong}
use Rattle.json_schema.specs.declared.unknown.Unknown.{Unknown}
use Rattle.json_schema.specs.declared.unknown.Unknown.TheVariants.{Keyword, Format, Dialect}

abbrev pub program : List ℕ
program = codes "json_schema"

abbrev pub too_deep : List ℕ
too_deep = codes "schemas are nested too deep"

abbrev pub too_much : List ℕ
too_much = codes "the check takes too many steps"

-- that the line with this number, of the file with this name or of standard input, needs too many nested schemas
abbrev pub told_depth : Option (List ℕ) → ℕ → List ℕ
told_depth None n = program ++ (codes ": line " ++ (decimal n ++ (codes ": " ++ (too_deep ++ line_feed ∷ []))))
told_depth (Some file) n =
    shown (chars file) ++ (codes ":" ++ (decimal n ++ (codes ": " ++ (too_deep ++ line_feed ∷ []))))

-- that its check takes too many steps
abbrev pub told_steps : Option (List ℕ) → ℕ → List ℕ
told_steps None n = program ++ (codes ": line " ++ (decimal n ++ (codes ": " ++ (too_much ++ line_feed ∷ []))))
told_steps (Some file) n =
    shown (chars file) ++ (codes ":" ++ (decimal n ++ (codes ": " ++ (too_much ++ line_feed ∷ []))))

-- why a line can't be checked
abbrev pub told_line : Option (List ℕ) → ℕ → Cause → List ℕ
told_line file n NotUtf8 = refusal_line program file record { number = n; cause = line.NotUtf8 }
told_line file n (NotJson e) = refusal_line program file record { number = n; cause = line.NotJson e }
told_line file n TooDeep = told_depth file n
told_line file n TooMuch = told_steps file n
told_line file n (TooLong m) = refusal_line program file record { number = n; cause = line.TooLong m }

-- what a name in the schema is not
abbrev pub unknown_as : Unknown → List ℕ
unknown_as Keyword = codes "is no keyword"
unknown_as Format = codes "is an unknown format"
unknown_as Dialect = codes "is an unknown $schema"

abbrev pub told_name : Unknown → List ℕ → List ℕ
told_name u k = codes "json_schema: the schema: \"" ++ (shown k ++ (codes "\" " ++ (unknown_as u ++ line_feed ∷ [])))

abbrev pub told_names : Unknown → List (List ℕ) → List ℕ
told_names u [] = []
told_names u (k ∷ ks) = told_name u k ++ told_names u ks
