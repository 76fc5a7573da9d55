-- The query that the arguments name.
use Rattle.std.specs.Prelude.{◌≡◌, ℕ, List, ◌++◌, Some, Result, Ok, Err, ◌⊎◌, codes}
use Rattle.tinyjson_path.specs.Message as query
use Rattle.tinyjson_path.specs.ParseError.{ParseError}
use Rattle.tinyjson_path.specs.ParseErrorKind.TheVariants as refusal
use Rattle.tinyjson_path.specs.Query.{Query}
use Rattle.tinyjson_path.specs.Reading.{Reads}
use Rattle.tinyjson_cli.specs.Failures.{failure_message, failure_status}
use Rattle.tinyjson_cli.specs.declared.failure.Failure.{Failure}
use Rattle.tinyjson_cli.specs.declared.failure.Failure.TheVariants as failure
use Rattle.tinyjson_cli.specs.declared.status.Status.TheVariants as status

-- The failure has the message of the error, or memory ran out.
abbrev pub IsQueryFailure : ParseError → Failure → Type 0
IsQueryFailure e f =
    ((failure_status f ≡ status.Misused) × (failure_message f ≡ Some (codes "the query: " ++ query.error_message e))
    × ¬ (e.kind ≡ refusal.OutOfMemory)) ⊎ (f ≡ failure.OutOfMemory)

-- The query of the characters, or the failure for the parser's error.
abbrev pub ReadsQuery : List ℕ → Result Query Failure → Type 0
ReadsQuery cs (Ok q) = Reads cs (Ok q)
ReadsQuery cs (Err f) = (e : ParseError) × Reads cs (Err e) × IsQueryFailure e f
