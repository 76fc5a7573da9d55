-- The report of a value that is not valid, with the line and the column at which the part begins.
use Rattle.std.specs.Fmt.{decimal}
use Rattle.std.specs.Prelude.{ℕ, List, [], ◌∷◌, ◌++◌, Option, Some, None, codes, cond, length, ◌==◌}
use Rattle.std.specs.Str.{chars}
use Rattle.tinyjson.specs.Characters.{line_feed}
use Rattle.tinyjson.specs.View.{text}
use Rattle.tinyjson_pointer.specs.Text.{pointer_text}
use Rattle.tinyjson_pointer.specs.Tokens.{tokens_of}
use Rattle.tinyjson_cli.specs.Shown.{shown}
use Rattle.tinyjson_schema_report.specs.declared.located.Located.{Located}

-- the text behind the place at which the part begins, in the file with this name or in standard input
abbrev pub text_at : Option (List ℕ) → ℕ → ℕ → List ℕ → List ℕ
text_at (Some f) n c ws = shown (chars f) ++ (codes ":" ++ (decimal n ++ (codes ":" ++ (decimal c ++ (codes ": " ++ ws)))))
text_at None n c ws = codes "line " ++ (decimal n ++ (codes ", col " ++ (decimal c ++ (codes ": " ++ ws))))

abbrev pub headed : List ℕ → List ℕ → List ℕ
headed h words = cond (length h == 0) words (h ++ (codes " " ++ words))

-- `data.json:3:7: /a must be at most 10, is 12`
abbrev pub text_line : Option (List ℕ) → ℕ → Located → List ℕ
text_line file line l = text_at file line l.place.column
    (headed (shown (pointer_text (tokens_of l.finding.violation.instance_location))) (shown (text l.finding.words) ++ line_feed ∷ []))
