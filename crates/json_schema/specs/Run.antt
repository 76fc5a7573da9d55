-- The check of each line of an input.
use Rattle.std.specs.Prelude.{◌≡◌, ℕ, Bool, true, false, ◌&&◌, cond, List, [], ◌∷◌, ◌++◌, Option, option_map, Result, Ok, Err, ◌⊎◌}
use Rattle.std.specs.Io.KnownBytes.{Appends, Keeps}
use Rattle.std.specs.declared.io.Error.{Error}
use Rattle.tinyjson.specs.Characters.{line_feed}
use Rattle.tinyjson.specs.Written.{WrittenPart}
use Rattle.tinyjson_cli.specs.declared.status.Status.{Status}
use Rattle.tinyjson_cli.specs.declared.status.Status.TheVariants as ended
use Rattle.tinyjson_lines.specs.Line.{line_of}
use Rattle.tinyjson_lines.specs.Lines.{AnswersAll, StopsAmong, content}
use Rattle.tinyjson_schema_report.specs.Located.{located_tree}
use Rattle.json_schema.specs.Report.{text_line}
use Rattle.json_schema.specs.Told.{told_line}
use Rattle.tinyjson_schema_report.specs.Verdicts.{judged}
use Rattle.json_schema.specs.Verdicts.{GivesWithin}
use Rattle.json_schema.specs.declared.lines.Check.{Check}
use Rattle.json_schema.specs.declared.lines.Outcome.{Outcome}
use Rattle.json_schema.specs.declared.lines.Outcome.TheVariants.{AllValid, SomeInvalid, SomeRefused}
use Rattle.json_schema.specs.declared.lines.Shows.{Shows}
use Rattle.json_schema.specs.declared.lines.Shows.TheVariants.{Reports, Texts, ValidLines, OtherLines}
use Rattle.tinyjson_schema_report.specs.declared.verdict.Cause.{Cause}
use Rattle.tinyjson_schema_report.specs.declared.verdict.Cause.TheVariants.{TooLong}
use Rattle.tinyjson_schema_report.specs.declared.located.Located.{Located}
use Rattle.tinyjson_schema_report.specs.declared.verdict.Verdict.{Verdict}
use Rattle.tinyjson_schema_report.specs.declared.verdict.Verdict.TheVariants.{Valid, Invalid, Refused}

abbrev pub status : Outcome → Status
status AllValid = ended.Done
status SomeInvalid = ended.No
status SomeRefused = ended.No

-- a line that was read, and the verdict on it
pub record Checked : Type 0 where
  pub line : List ℕ
  pub verdict : Verdict

-- the line with a line feed, which the last one may lack
abbrev pub line_text : List ℕ → List ℕ
line_text line = content line ++ line_feed ∷ []

abbrev pub file_of : Check → Option (List ℕ)
file_of k = option_map (λ f. f.now) k.file

abbrev pub is_others : Shows → Bool
is_others OtherLines = true
is_others _ = false

abbrev pub is_valids : Shows → Bool
is_valids ValidLines = true
is_valids _ = false

-- the line was kept in memory
abbrev pub is_kept : Cause → Bool
is_kept (TooLong m) = false
is_kept _ = true

-- a line with this verdict is written itself: one that is valid, or one of the others
abbrev pub is_line_shown : Verdict → Shows → Bool
is_line_shown Valid s = is_valids s
is_line_shown (Invalid v) s = is_others s
is_line_shown (Refused c) s = is_kept c && is_others s

abbrev pub report_by : Shows → Option (List ℕ) → ℕ → Located → List ℕ
report_by Reports file n l = line_of (located_tree n l)
report_by Texts file n l = text_line file n l
report_by ValidLines file n l = []
report_by OtherLines file n l = []

-- the report of a value that is not valid, with the line's number
abbrev pub report_of : Verdict → Shows → Option (List ℕ) → ℕ → List ℕ
report_of (Invalid l) s file n = report_by s file n l
report_of _ s file n = []

-- what is written for the line with this number
abbrev pub shown_by : Shows → Option (List ℕ) → ℕ → List ℕ → Verdict → List ℕ
shown_by s file n line v = cond (is_line_shown v s) (line_text line) (report_of v s file n)

abbrev pub shown_of : Check → ℕ → List ℕ → Verdict → List ℕ
shown_of k n line v = shown_by k.shows (file_of k) n line v

abbrev pub output_of : Check → ℕ → Checked → List ℕ
output_of k n f = shown_of k n f.line f.verdict

-- what is printed for it on standard error: why it can't be checked, if it can't
abbrev pub told_of : Check → ℕ → Verdict → List ℕ
told_of k n (Refused c) = told_line (file_of k) n c
told_of k n _ = []

abbrev pub telling_of : Check → ℕ → Checked → List ℕ
telling_of k n f = told_of k n f.verdict

abbrev pub outcome_of : Verdict → Outcome
outcome_of Valid = AllValid
outcome_of (Invalid v) = SomeInvalid
outcome_of (Refused c) = SomeRefused

-- the worse of two outcomes
abbrev pub both : Outcome → Outcome → Outcome
both AllValid o = o
both SomeInvalid SomeRefused = SomeRefused
both SomeInvalid _ = SomeInvalid
both SomeRefused _ = SomeRefused

abbrev pub outcome_of_all : List Checked → Outcome
outcome_of_all [] = AllValid
outcome_of_all (f ∷ fs) = both (outcome_of f.verdict) (outcome_of_all fs)

-- a line that was checked, with the verdict on it in this check
abbrev pub Gives : Check → List ℕ → Checked → Type 0
Gives k line f = (f.line ≡ line) × GivesWithin k.max_line (judged k.judge) line f.verdict

-- A run of this check: the input before and after, the output before and after, and standard error before and
-- after.
abbrev pub Runs : Check → Option (List ℕ) → Option (List ℕ) → Option (List ℕ) → Option (List ℕ) → Option (List ℕ) → Option (List ℕ)
    → Result Outcome Error → Type 0
Runs k unread left held holds told tells (Ok o) =
    (fs : List Checked) × AnswersAll (Gives k) (output_of k) (telling_of k) unread left held holds told tells fs × (o ≡ outcome_of_all fs)
Runs k unread left held holds told tells (Err e) = StopsAmong (Gives k) (output_of k) (telling_of k) unread held holds told tells

-- the same for one line
abbrev pub Handles : Check → ℕ → List ℕ → Option (List ℕ) → Option (List ℕ) → Option (List ℕ) → Option (List ℕ)
    → Result Outcome Error → Type 0
Handles k n line held holds told tells (Ok o) =
    (f : Checked) × Gives k line f × (o ≡ outcome_of f.verdict) × Appends held holds (output_of k n f)
    × Appends told tells (telling_of k n f)
Handles k n line held holds told tells (Err e) =
    (Keeps held holds × Keeps told tells)
    ⊎ ((f : Checked) × Gives k line f × WrittenPart held holds (output_of k n f) × WrittenPart told tells (telling_of k n f))

-- Nothing was written, and a message about the line; or a part of it.
abbrev pub Refuses : Check → ℕ → Cause → Option (List ℕ) → Option (List ℕ) → Option (List ℕ) → Option (List ℕ)
    → Result Outcome Error → Type 0
Refuses k n c held holds told tells (Ok o) =
    (o ≡ SomeRefused) × Keeps held holds × Appends told tells (told_line (file_of k) n c)
Refuses k n c held holds told tells (Err e) = Keeps held holds × WrittenPart told tells (told_line (file_of k) n c)
