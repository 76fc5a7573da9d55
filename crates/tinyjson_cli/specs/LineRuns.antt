-- A run of a program over lines.
use Rattle.std.specs.Prelude.{◌≡◌, ℕ, ◌-◌, ◌^◌, Bool, true, false, ◌||◌, List, [], Option, None, Some, Result, Ok, Err, ◌⊎◌, cond, max, option_map}
use Rattle.std.specs.Prelude.{unwrap_or}
use Rattle.std.specs.Str.{IsUtf8, chars}
use Rattle.std.specs.declared.io.Error.{Error}
use Rattle.tinyjson_lines.specs.Each.{Handles}
use Rattle.tinyjson_lines.specs.Lines.{content}
use Rattle.tinyjson_lines.specs.declared.refusal.Cause.TheVariants.{NotUtf8, TooLong}
use Rattle.tinyjson_cli.specs.Failures.{status_code}
use Rattle.tinyjson_cli.specs.Tools.{Answered, Meaning, Source}
use Rattle.tinyjson_cli.specs.Unanswered.{unanswered_line}
use Rattle.tinyjson_cli.specs.declared.line_run.LineRun.{LineRun}
use Rattle.tinyjson_cli.specs.declared.status.Status.{Status}
use Rattle.tinyjson_cli.specs.declared.status.Status.TheVariants as status
use Rattle.tinyjson_cli.specs.declared.texts.NoAnswer.{NoAnswer}
use Rattle.tinyjson_cli.specs.declared.texts.NoAnswer.TheVariants.{Refused}

-- the status for a line that has no answer, where the run goes on or does not
abbrev pub status_without : Bool → Status
status_without goes_on = cond goes_on status.No status.Refused

abbrev pub file_of : {T : Type 0} → LineRun T → Option (List ℕ)
file_of run = option_map (λ s. s.now) run.file

-- the line of this number
abbrev pub line_source : {T : Type 0} → LineRun T → ℕ → Source
line_source run n = record { file = file_of run; line = Some n }

-- the limit of a line, or the greatest `usize`
abbrev pub line_limit : {T : Type 0} → LineRun T → ℕ
line_limit run = unwrap_or run.texts.max_line (2 ^ 64 - 1)

-- all but the program and the status
abbrev pub IsSameRun : {T : Type 0} → LineRun T → LineRun T → Type 0
IsSameRun old new = (new.alloc ≡ old.alloc) × (new.program ≡ old.program) × (new.file ≡ old.file) × (new.texts ≡ old.texts)

-- The answer for a line as it is given: that for its text, without the line feed. A line that is not UTF-8 is rejected, and
-- one that is longer than the limit.
abbrev pub LineBecomes : {T : Type 0} → Meaning T → LineRun T → ℕ → Option (List ℕ) → Result (Status × List ℕ) NoAnswer → LineRun T
    → Type 0
LineBecomes gives old n None f new = (f ≡ Err (Refused (TooLong (line_limit old)))) × (new ≡ old)
LineBecomes gives old n (Some line) f new =
    (IsUtf8 (content line) × gives old.tool (line_source old n) (chars (content line)) f new.tool
    × (new.status ≡ old.status) × IsSameRun old new)
    ⊎ (¬ IsUtf8 (content line) × (f ≡ Err (Refused NotUtf8)) × (new ≡ old))

abbrev pub AnswersLineOf : {T : Type 0} → Meaning T → LineRun T → LineRun T → ℕ → Option (List ℕ) → Option (List ℕ) → Option (List ℕ)
    → Result (Result Status NoAnswer) Error → Type 0
AnswersLineOf gives old new n line held holds result = Answered (LineBecomes gives old n line) new held holds result

-- what is printed for an answer, what is reported, whether the run goes on, and the status
abbrev pub printed_of : Result (Status × List ℕ) NoAnswer → List ℕ
printed_of (Ok a) = a.1
printed_of (Err why) = []

abbrev pub reported_of : List ℕ → Option (List ℕ) → ℕ → Result (Status × List ℕ) NoAnswer → List ℕ
reported_of program file n (Ok a) = []
reported_of program file n (Err why) = unanswered_line program file n why

abbrev pub goes_on_after : Bool → Result (Status × List ℕ) NoAnswer → Bool
goes_on_after goes_on (Ok a) = true
goes_on_after goes_on (Err why) = goes_on

abbrev pub status_after : Bool → Result (Status × List ℕ) NoAnswer → Status
status_after goes_on (Ok a) = a.0
status_after goes_on (Err why) = status_without goes_on

-- The answer for the line of this number is printed, or it is reported that there is none, and the run goes on if that is asked.
-- The status is the greater of the one before and the line's.
abbrev pub handles_run : {T : Type 0} → Meaning T → Handles (LineRun T)
handles_run {T} gives old n line written words goes_on new =
    (f : Result (Status × List ℕ) NoAnswer) × (mid : LineRun T) × LineBecomes gives old n line f mid × (written ≡ printed_of f)
    × (words ≡ reported_of old.program.now (file_of old) n f) × (goes_on ≡ goes_on_after old.texts.goes_on f)
    × (status_code new.status ≡ max (status_code old.status) (status_code (status_after old.texts.goes_on f)))
    × (new.tool ≡ mid.tool) × IsSameRun old new
