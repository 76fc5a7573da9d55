-- The exit status of each failure, and its message.
use Rattle.std.specs.Fmt.{decimal}
use Rattle.std.specs.Prelude.{ℕ, Bool, true, false, List, ◌++◌, Option, Some, None, codes, string_bytes, option_map}
use Rattle.std.specs.Str.{chars}
use Rattle.std.specs.declared.io.Error.{Error}
use Rattle.std.specs.declared.io.ErrorKind.{ErrorKind}
use Rattle.std.specs.declared.io.ErrorKind.TheVariants as io
use Rattle.tinyjson.specs.Error.{error_kind, error_message, error_position, kind_message}
use Rattle.tinyjson_cli.specs.Shown.{shown}
use Rattle.tinyjson_cli.specs.declared.failure.Failure.{Failure}
use Rattle.tinyjson_cli.specs.declared.failure.Failure.TheVariants as is
use Rattle.tinyjson_cli.specs.declared.status.Status.{Status}
use Rattle.tinyjson_cli.specs.declared.status.Status.TheVariants.{Done, No, Misused, Refused, Failed}

abbrev pub status_code : Status → ℕ
status_code Done = 0
status_code No = 1
status_code Misused = 2
status_code Refused = 3
status_code Failed = 4

abbrev pub failure_status : Failure → Status
failure_status (is.No w) = No
failure_status (is.Misused w) = Misused
failure_status (is.NotJson e) = Refused
failure_status (is.NotUtf8 p) = Refused
failure_status (is.Refused w) = Refused
failure_status (is.Failed w) = Failed
failure_status (is.Reading e) = Failed
failure_status (is.Writing e) = Failed
failure_status is.OutOfMemory = Failed
failure_status is.Closed = Failed

-- what is wrong; of a read or a write that failed nothing is said here
abbrev pub failure_message : Failure → Option (List ℕ)
failure_message (is.No w) = Some (string_bytes w)
failure_message (is.Misused w) = Some (string_bytes w)
failure_message (is.NotJson e) = Some (kind_message (error_kind e))
failure_message (is.NotUtf8 p) = Some (codes "not UTF-8")
failure_message (is.Refused w) = Some (string_bytes w)
failure_message (is.Failed w) = Some (string_bytes w)
failure_message (is.Reading e) = None
failure_message (is.Writing e) = None
failure_message is.OutOfMemory = Some (codes "out of memory")
failure_message is.Closed = Some (codes "the reader of the output has gone")

-- a read that failed
abbrev pub reading_failure : ErrorKind → Error → Failure
reading_failure io.OutOfMemory e = is.OutOfMemory
reading_failure _ e = is.Reading e

-- a write that failed, where the reader of the output may have gone
abbrev pub writing_failure : ErrorKind → Error → Failure
writing_failure io.OutOfMemory e = is.OutOfMemory
writing_failure io.BrokenPipe e = is.Closed
writing_failure _ e = is.Writing e

-- whether other inputs are answered after the failure
abbrev pub goes_on : Failure → Bool
goes_on (is.No w) = true
goes_on (is.NotJson e) = true
goes_on (is.NotUtf8 p) = true
goes_on (is.Refused w) = true
goes_on (is.Reading e) = true
goes_on _ = false

-- a name, and what is wrong
abbrev pub named : List ℕ → Failure → Option (List ℕ)
named name f = option_map (λ words. name ++ (codes ": " ++ words)) (failure_message f)

-- the name of a file, a line and a column, and what is wrong
abbrev pub placed : List ℕ → ℕ → ℕ → Failure → Option (List ℕ)
placed name line column f = option_map
    (λ words. name ++ (codes ":" ++ (decimal line ++ (codes ":" ++ (decimal column ++ (codes ": " ++ words)))))) (failure_message f)

-- A failure as a program with this name prints it, of an input from the file with this name, or from standard input.
abbrev pub message_text : List ℕ → Option (List ℕ) → Failure → Option (List ℕ)
message_text program (Some file) (is.NotJson e) =
    placed (shown (chars file)) (error_position e).line (error_position e).column (is.NotJson e)
message_text program (Some file) (is.NotUtf8 p) = placed (shown (chars file)) p.line p.column (is.NotUtf8 p)
message_text program (Some file) (is.No w) = named (shown (chars file)) (is.No w)
message_text program (Some file) (is.Refused w) = named (shown (chars file)) (is.Refused w)
message_text program (Some file) (is.Reading e) = named (shown (chars file)) (is.Reading e)
message_text program None (is.NotJson e) = Some (program ++ (codes ": " ++ error_message e))
message_text program None (is.NotUtf8 p) = Some (program ++ (codes ": Parse error at line:" ++ (decimal p.line
    ++ (codes ", col:" ++ (decimal p.column ++ codes ": not UTF-8")))))
message_text program file f = named program f
