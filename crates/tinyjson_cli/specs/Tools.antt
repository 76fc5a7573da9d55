-- A program that answers inputs.
use Rattle.std.specs.Prelude.{◌≡◌, ℕ, List, Option, None, Some, Result, Ok, Err, ◌⊎◌, option_map, string_bytes}
use Rattle.std.specs.Io.KnownBytes.{Appends, Keeps}
use Rattle.std.specs.IoError.{error_kind}
use Rattle.std.specs.declared.io.Error.{Error}
use Rattle.std.specs.declared.io.ErrorKind.TheVariants as io
use Rattle.tinyjson.specs.Written.{WrittenPart}
use Rattle.tinyjson_cli.specs.declared.status.Status.{Status}
use Rattle.tinyjson_cli.specs.declared.status.Status.TheVariants.{Done}
use Rattle.tinyjson_cli.specs.declared.texts.NoAnswer.{NoAnswer}
use Rattle.tinyjson_cli.specs.declared.tool.Input.{Input}
use Rattle.tinyjson_cli.specs.declared.tool.InputText.{InputText}
use Rattle.tinyjson_cli.specs.declared.tool.InputText.TheVariants.{Owned, Lent}

abbrev pub text_bytes : InputText → List ℕ
text_bytes (Owned s) = string_bytes s
text_bytes (Lent s) = s.now

-- where an input is from: the name of its file, if it has one, and its number, if it is a line
pub record Source : Type 0 where
  pub file : Option (List ℕ)
  pub line : Option ℕ

abbrev pub source_of : Input → Source
source_of i = record { file = option_map (λ s. s.now) i.file; line = i.line }

-- The meaning of a program: what it was, where an input is from, the characters of its text; the status and the bytes of
-- the answer, or why there is none; and what the program is then.
abbrev pub Meaning : Type 0 → Type 1
Meaning T = T → Source → List ℕ → Result (Status × List ℕ) NoAnswer → T → Type 0

-- The answer is written; or there is none, and nothing is. After an error of the writer, or if memory runs out, a prefix of
-- the answer is written, or nothing.
abbrev pub Answered : {T : Type 0} → (Result (Status × List ℕ) NoAnswer → T → Type 0) → T → Option (List ℕ) → Option (List ℕ)
    → Result (Result Status NoAnswer) Error → Type 0
Answered gives new held holds (Ok (Ok s)) = (bytes : List ℕ) × gives (Ok (s, bytes)) new × Appends held holds bytes
Answered gives new held holds (Ok (Err why)) = gives (Err why) new × Keeps held holds
Answered {T} gives new held holds (Err e) =
    ((error_kind e ≡ io.OutOfMemory) × Keeps held holds)
    ⊎ ((s : Status) × (bytes : List ℕ) × (after : T) × gives (Ok (s, bytes)) after × WrittenPart held holds bytes)

abbrev pub AnswersInput : {T : Type 0} → Meaning T → T → T → Source → List ℕ → Option (List ℕ) → Option (List ℕ)
    → Result (Result Status NoAnswer) Error → Type 0
AnswersInput gives old new source text held holds result = Answered (gives old source text) new held holds result

-- ---- programs whose answers all have the status `Done`

abbrev pub done_of : Result (Option NoAnswer) Error → Result (Result Status NoAnswer) Error
done_of (Ok None) = Ok (Ok Done)
done_of (Ok (Some why)) = Ok (Err why)
done_of (Err e) = Err e

-- the answer has these bytes, or there is none for this reason
abbrev pub GivesDone : (Result (List ℕ) NoAnswer → Type 0) → Result (Status × List ℕ) NoAnswer → Type 0
GivesDone gives (Ok a) = (a.0 ≡ Done) × gives (Ok a.1)
GivesDone gives (Err why) = gives (Err why)
