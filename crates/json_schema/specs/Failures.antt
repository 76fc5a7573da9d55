-- The failures of the program.
use Rattle.std.specs.Fmt.{decimal}
use Rattle.std.specs.Prelude.{◌≡◌, ℕ, ◌⊎◌, List, ◌++◌, Some, codes}
use Rattle.std.specs.Str.{chars}
use Rattle.tinyjson.specs.Error.{error_kind, error_message, error_position, kind_message}
use Rattle.tinyjson.specs.JsonParseErrorKind.TheVariants as kind
use Rattle.tinyjson.specs.View.{view, text}
use Rattle.tinyjson.specs.declared.parser.error.JsonParseError.{JsonParseError}
use Rattle.tinyjson_pointer.specs.Text.{pointer_text}
use Rattle.tinyjson_pointer.specs.Tokens.{tokens_of}
use Rattle.tinyjson_cli.specs.Failures.{failure_message, failure_status}
use Rattle.tinyjson_cli.specs.Shown.{shown}
use Rattle.tinyjson_cli.specs.declared.failure.Failure.{Failure}
use Rattle.tinyjson_cli.specs.declared.failure.Failure.TheVariants as failure
use Rattle.tinyjson_cli.specs.declared.status.Status.{Status}
use Rattle.tinyjson_cli.specs.declared.status.Status.TheVariants.{Misused, Refused}
use Rattle.tinyjson_schema_drafts.specs.declared.compound.EmbedError.{EmbedError}
use Rattle.tinyjson_schema_drafts.specs.declared.compound.EmbedError.TheVariants as embed
use Rattle.tinyjson_schema_report.specs.Refused.{TellsRefused}
use Rattle.tinyjson_schema_report.specs.declared.refused.Refusal.{Refusal}
use Rattle.json_schema.specs.Told.{too_deep, too_much}
use Rattle.json_schema.specs.declared.failure.SchemaFailure.{SchemaFailure}
use Rattle.json_schema.specs.declared.failure.SchemaFailure.TheVariants as is
use Rattle.tinyjson_schema_report.specs.declared.verdict.Cause.{Cause}
use Rattle.tinyjson_schema_report.specs.declared.verdict.Cause.TheVariants as cause

-- where a document in the file with this name is no JSON
abbrev pub document_message : List ℕ → JsonParseError → List ℕ
document_message name e = shown (chars name) ++ (codes ":" ++ (decimal (error_position e).line
    ++ (codes ":" ++ (decimal (error_position e).column ++ (codes ": " ++ kind_message (error_kind e))))))

abbrev pub schema_message : SchemaFailure → List ℕ
schema_message (is.Text e) = codes "the schema: " ++ error_message e
schema_message (is.Refused place words) =
    codes "the schema: at \"" ++ (shown (text place) ++ (codes "\": " ++ shown (text words)))
schema_message (is.Document file e) = document_message file.now e
schema_message (is.Twice u) = codes "two documents have the URI \"" ++ (shown (chars u.now) ++ codes "\"")
schema_message (is.NoDraft n) = codes "no draft " ++ (decimal n ++ codes ": the drafts are 4, 6, 7, 2019 and 2020")
schema_message is.MetaLines = codes "--meta checks no lines"

-- a failure with this status and this message
abbrev pub Is : Status → List ℕ → Failure → Type 0
Is status words f = (failure_status f ≡ status) × (failure_message f ≡ Some words)

-- Status 2 and the message for a schema; or out of memory.
abbrev pub TellsSchema : SchemaFailure → Failure → Type 0
TellsSchema e f = Is Misused (schema_message e) f ⊎ (f ≡ failure.OutOfMemory)

-- Status 2 and the message for a schema that can't be applied: the text of its place, and why; or out of memory.
abbrev pub FailsRefused : Refusal → Failure → Type 0
FailsRefused r f =
    ((ws : List ℕ) × TellsRefused (view r.root.now) r.is_older (tokens_of r.place.now) ws
    × Is Misused (codes "the schema: at \"" ++ (shown (pointer_text (tokens_of r.place.now)) ++ (codes "\": " ++ shown (chars ws)))) f)
    ⊎ (f ≡ failure.OutOfMemory)

-- Status 2 and the message for a schema whose text is no JSON; or out of memory.
abbrev pub TellsSchemaText : JsonParseError → Failure → Type 0
TellsSchemaText e f =
    ((error_kind e ≡ kind.OutOfMemory) × (f ≡ failure.OutOfMemory)) ⊎ (¬ (error_kind e ≡ kind.OutOfMemory) × TellsSchema (is.Text e) f)

-- Status 2 and the message for a document whose text is no JSON, in the file with this name; or out of memory.
abbrev pub TellsDocument : List ℕ → JsonParseError → Failure → Type 0
TellsDocument name e f = ((error_kind e ≡ kind.OutOfMemory) × (f ≡ failure.OutOfMemory))
    ⊎ (¬ (error_kind e ≡ kind.OutOfMemory) × (Is Misused (document_message name e) f ⊎ (f ≡ failure.OutOfMemory)))

-- The same for a meta-schema; or out of memory.
abbrev pub TellsEmbed : EmbedError → Failure → Type 0
TellsEmbed (embed.NotJson m e) f = TellsDocument m.uri.now e f
TellsEmbed embed.OutOfMemory f = f ≡ failure.OutOfMemory

-- Status 3 and the reason why a text can't be checked, with the parser's place if it is no JSON; or out of memory.
abbrev pub TellsText : Cause → Failure → Type 0
TellsText (cause.NotJson e) f = f ≡ failure.NotJson e
TellsText cause.NotUtf8 f = Is Refused (codes "not UTF-8") f ⊎ (f ≡ failure.OutOfMemory)
TellsText cause.TooDeep f = Is Refused too_deep f ⊎ (f ≡ failure.OutOfMemory)
TellsText cause.TooMuch f = Is Refused too_much f ⊎ (f ≡ failure.OutOfMemory)
TellsText (cause.TooLong m) f = Is Refused (codes "too long") f ⊎ (f ≡ failure.OutOfMemory)
