-- The verdict on a schema by its meta-schema (JSON Schema 2020-12, Core, 8.1.1).
use Rattle.std.specs.Prelude.{◌≡◌, ℕ, ◌⊎◌, List, Ok, string_bytes}
use Rattle.tinyjson.specs.Grammar.{IsText}
use Rattle.tinyjson.specs.Tree.{Tree}
use Rattle.tinyjson.specs.View.{view, text}
use Rattle.tinyjson.specs.declared.parser.error.JsonParseError.{JsonParseError}
use Rattle.tinyjson_pointer.specs.Text.{pointer_text}
use Rattle.tinyjson_pointer.specs.Tokens.{tokens_of}
use Rattle.tinyjson_schema.specs.Reading.{ReadsSchema, root_in}
use Rattle.tinyjson_schema.specs.Valid.{Root}
use Rattle.tinyjson_schema.specs.declared.schema.Schema.{Schema}
use Rattle.tinyjson_schema_drafts.specs.References.{HasMetaSchemas, Seen, meta_schema_of, referring}
use Rattle.tinyjson_schema_report.specs.Refused.{TellsRefused}
use Rattle.tinyjson_schema_report.specs.Verdicts.{IsNoText, TextGivesAs, depth_limit}
use Rattle.tinyjson_schema_report.specs.declared.meta.MetaError.{MetaError}
use Rattle.tinyjson_schema_report.specs.declared.meta.MetaError.TheVariants as error
use Rattle.tinyjson_schema_report.specs.declared.meta.MetaSchemas.{MetaSchemas}
use Rattle.tinyjson_schema_report.specs.declared.refused.Refusal.{Refusal}
use Rattle.tinyjson_schema_report.specs.declared.verdict.Cause.TheVariants as cause
use Rattle.tinyjson_schema_report.specs.declared.verdict.every.Every.{Every}
use Rattle.tinyjson_schema_report.specs.declared.verdict.every.Every.TheVariants.{Refused}

abbrev pub judged_by : MetaSchemas → Schema → Root
judged_by m s = root_in s m.formats

-- what the text xs violates of the schema r
abbrev pub WholeGives : MetaSchemas → Seen → List ℕ → Every → Type 0
WholeGives m r xs v = (s : Schema) × ReadsSchema r.0 (Ok s) × TextGivesAs m.most (judged_by m s) xs v

-- what it violates of the meta-schema with the URI u: of a schema that refers to it, with all that references lead into
abbrev pub GivesBy : MetaSchemas → List ℕ → List ℕ → Every → Type 0
GivesBy m u xs v =
    (r : Seen) × HasMetaSchemas (referring u (view m.documents.tree), m.documents.is_older) r × WholeGives m r xs v

-- the text is JSON, and this is what it violates of the meta-schema that its `$schema` names; or it is no JSON
abbrev pub SchemaGives : MetaSchemas → List ℕ → Every → Type 0
SchemaGives m xs v = ((t : Tree) × IsText depth_limit xs t × GivesBy m (meta_schema_of m.draft t) xs v)
    ⊎ ((e : JsonParseError) × IsNoText xs e × (v ≡ Refused (cause.NotJson e)))

-- The meta-schema with the URI u is not known, or it can't be applied at this place, as the words say.
abbrev pub IsErrorOf : List ℕ → Refusal → MetaError → Type 0
IsErrorOf u r (error.Unknown s) = string_bytes s ≡ u
IsErrorOf u r (error.Refused p ws) = (text p ≡ pointer_text (tokens_of r.place.now))
    × TellsRefused (view r.root.now) r.is_older (tokens_of r.place.now) (string_bytes ws)
IsErrorOf u r _ = ⊥
