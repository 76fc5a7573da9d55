-- The program's arguments.
use Rattle.std.specs.Prelude.{ℕ, Bool, true, false, ◌||◌, List, Option, None, Some, option_map, cond}
use Rattle.tinyjson_cli.specs.Arguments.{Given, first_operand, is_given, last_number}
use Rattle.json_schema.specs.declared.lines.Shows.{Shows}
use Rattle.json_schema.specs.declared.lines.Shows.TheVariants.{Reports, Texts, ValidLines, OtherLines}

-- what is written: by `-v`, else `-i`, else `-t`
abbrev pub asked_shows : Given → Shows
asked_shows a = cond (is_given 118 a) ValidLines (cond (is_given 105 a) OtherLines (cond (is_given 116 a) Texts Reports))

-- lines are written themselves
abbrev pub are_lines : Shows → Bool
are_lines ValidLines = true
are_lines OtherLines = true
are_lines _ = false

-- how many violations are looked for: by `-a` 100, or the number behind `-n`; else only the first one
abbrev pub most_or : Option ℕ → ℕ
most_or (Some n) = n
most_or None = 100

abbrev pub asked_most : Given → Option ℕ
asked_most a = cond (is_given 97 a) (Some (most_or (last_number 110 None a.numbers))) None

-- The name of the schema's file, or none by `-M`: then the inputs are schemas. And the other files.
abbrev pub asked_files : Given → Option (Option (List ℕ) × List (List ℕ))
asked_files a = cond (is_given 77 a) (Some (None, a.operands)) (option_map (λ o. (Some o.0, o.1)) (first_operand a.operands))

-- Whether each line is a text, by `-l` or since lines are written, and whether `format` is an assertion. What is
-- written, and how many violations are looked for; the numbers behind `-m` and `-d`; the texts
-- behind `-r`, with its letter; the name of the schema's file, and the other files
abbrev pub asks : Given
    → Option ((((Bool × Bool) × (Shows × Option ℕ)) × ((Option ℕ × Option ℕ) × List (ℕ × List ℕ))) × (Option (List ℕ) × List (List ℕ)))
asks a = option_map
    (λ o. (
      (
        ((is_given 108 a || are_lines (asked_shows a), is_given 102 a), (asked_shows a, asked_most a)),
        ((last_number 109 None a.numbers, last_number 100 None a.numbers), a.texts),
      ),
      o,
    ))
    (asked_files a)
