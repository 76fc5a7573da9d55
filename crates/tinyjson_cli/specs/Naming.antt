-- The failure for a text that the arguments name.
use Rattle.std.specs.Prelude.{◌≡◌, ℕ, List, ◌++◌, Some, ◌⊎◌, codes}
use Rattle.tinyjson.specs.Error.{error_kind, error_message}
use Rattle.tinyjson.specs.JsonParseErrorKind.TheVariants as kind
use Rattle.tinyjson.specs.declared.parser.error.JsonParseError.{JsonParseError}
use Rattle.tinyjson_cli.specs.Failures.{failure_message, failure_status}
use Rattle.tinyjson_cli.specs.declared.failure.Failure.{Failure}
use Rattle.tinyjson_cli.specs.declared.failure.Failure.TheVariants as failure
use Rattle.tinyjson_cli.specs.declared.status.Status.TheVariants as status

-- The failure has this message about what is named, or memory ran out.
abbrev pub IsMisuse : (what message : List ℕ) → Failure → Type 0
IsMisuse what message f =
    ((failure_status f ≡ status.Misused) × (failure_message f ≡ Some (what ++ (codes ": " ++ message)))) ⊎ (f ≡ failure.OutOfMemory)

-- For a text that is no JSON text: the parser's message, or memory ran out.
abbrev pub IsNoText : List ℕ → JsonParseError → Failure → Type 0
IsNoText what e f =
    (¬ (error_kind e ≡ kind.OutOfMemory) × (failure_status f ≡ status.Misused)
    × (failure_message f ≡ Some (what ++ (codes ": " ++ error_message e))))
    ⊎ (f ≡ failure.OutOfMemory)
