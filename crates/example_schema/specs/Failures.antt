-- Whether a value is valid by a schema, and why it is not checked.
use Rattle.std.specs.Prelude.{◌≡◌, ◌≢◌, ℕ, List, Option, Some, Ok, Err}
use Rattle.tinyjson.specs.Error.{error_kind}
use Rattle.tinyjson.specs.JsonParseErrorKind.TheVariants as kind
use Rattle.tinyjson.specs.Words.{Tree, IsText, IsAccepted}
use Rattle.tinyjson_schema.specs.Reading.{ReadsSchema}
use Rattle.tinyjson_schema.specs.Valid.{Validates}
use Rattle.tinyjson_schema.specs.declared.violation.Violation.{Violation}
use Rattle.example_schema.specs.declared.failure.Failure.{Failure}
use Rattle.example_schema.specs.declared.failure.Failure.TheVariants as is

-- The text has a tree that is valid by the schema, or the place is one that violates it.
abbrev pub IsJudged : Tree → List ℕ → Option Violation → Type 0
IsJudged s value place = (t : Tree) × IsText (Some 100) value t × Validates 200 s t (Ok place)

-- The schema can't be applied at this place; or the value is no JSON, or memory ran out; or to check its tree
-- more than 200 schemas are nested (`TooDeep`).
abbrev pub IsFailureBy : Tree → List ℕ → Failure → Type 0
IsFailureBy s value (is.SchemaText e) = ⊥
IsFailureBy s value (is.Schema e) = ReadsSchema s (Err e)
IsFailureBy s value (is.ValueText e) = error_kind e ≢ kind.OutOfMemory → ¬ IsAccepted (Some 100) value
IsFailureBy s value (is.Check e) = (t : Tree) × IsText (Some 100) value t × Validates 200 s t (Err e)

-- The schema is no JSON, or memory ran out; or the value was not checked by it.
abbrev pub IsFailure : List ℕ → List ℕ → Failure → Type 0
IsFailure schema value (is.SchemaText e) = error_kind e ≢ kind.OutOfMemory → ¬ IsAccepted (Some 100) schema
IsFailure schema value f = (s : Tree) × IsText (Some 100) schema s × IsFailureBy s value f
