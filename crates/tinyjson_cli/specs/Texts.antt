-- The answers for texts: whole inputs, or lines.
use Rattle.std.specs.Prelude.{◌≡◌, ℕ, Bool, true, false, List, Option, None, Some, Result, Ok, Err, ◌⊎◌}
use Rattle.std.specs.Io.KnownBytes.{Appends, Keeps}
use Rattle.std.specs.IoError.{error_kind}
use Rattle.std.specs.declared.io.Error.{Error}
use Rattle.std.specs.declared.io.ErrorKind.TheVariants as io
use Rattle.tinyjson.specs.Written.{WrittenPart}
use Rattle.tinyjson_lines.specs.declared.refusal.Cause.TheVariants.{NotJson}
use Rattle.tinyjson_cli.specs.Arguments.{Given, is_given, last_number}
use Rattle.tinyjson_cli.specs.declared.failure.Failure.{Failure}
use Rattle.tinyjson_cli.specs.declared.failure.Failure.TheVariants as failure
use Rattle.tinyjson_cli.specs.declared.texts.NoAnswer.{NoAnswer}
use Rattle.tinyjson_cli.specs.declared.texts.NoAnswer.TheVariants.{Refused, No, Failed}
use Rattle.tinyjson_cli.specs.declared.texts.Texts.{Texts}

-- each line is a text where `-l` is given, of at most as many bytes as the last `-m` says; with `-I` each file is replaced
abbrev pub texts_given : Given → Texts
texts_given a = record {
  by_lines = is_given 108 a;
  max_line = last_number 109 None a.numbers;
  goes_on = true;
  in_place = is_given 73 a;
}

-- each line is a text, of at most as many bytes as the last `-m` says
abbrev pub lines_given : Given → Bool → Texts
lines_given a goes_on = record { by_lines = true; max_line = last_number 109 None a.numbers; goes_on = goes_on; in_place = false }

-- the failure for a text that has no answer
abbrev pub failure_of : NoAnswer → Failure
failure_of (Refused (NotJson e)) = failure.NotJson e
failure_of (Refused c) = failure.NotUtf8 record { line = 1; column = 0 }
failure_of (No w) = failure.No w
failure_of (Failed w) = failure.Failed w

-- The answer is written; or there is none, and nothing is. After an error of the writer, or if memory runs out, a prefix of
-- the answer is written, or nothing.
abbrev pub Answers : (Result (List ℕ) NoAnswer → Type 0) → Option (List ℕ) → Option (List ℕ) → Result (Option NoAnswer) Error → Type 0
Answers gives held holds (Ok None) = (bytes : List ℕ) × gives (Ok bytes) × Appends held holds bytes
Answers gives held holds (Ok (Some why)) = gives (Err why) × Keeps held holds
Answers gives held holds (Err e) =
    ((error_kind e ≡ io.OutOfMemory) × Keeps held holds) ⊎ ((bytes : List ℕ) × gives (Ok bytes) × WrittenPart held holds bytes)
