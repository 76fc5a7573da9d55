-- The failure for an unknown meta-schema, and the URIs of documents.
use Rattle.std.specs.Prelude.{◌≡◌, ℕ, Bool, false, ◌⊎◌, List, [], ◌∷◌, ◌++◌, Option, codes, cond}
use Rattle.std.specs.Prelude.{string_bytes, unwrap_or}
use Rattle.std.specs.Str.{chars}
use Rattle.tinyjson.specs.Tree.{Tree}
use Rattle.tinyjson_cli.specs.Folders.{join_path}
use Rattle.tinyjson_cli.specs.Shown.{shown}
use Rattle.tinyjson_cli.specs.declared.failure.Failure.{Failure}
use Rattle.tinyjson_cli.specs.declared.failure.Failure.TheVariants as failure
use Rattle.tinyjson_cli.specs.declared.status.Status.TheVariants as status
use Rattle.tinyjson_schema_drafts.specs.Documents.{found_at, has_definition}
use Rattle.tinyjson_schema_drafts.specs.declared.draft.Draft.{Draft}
use Rattle.tinyjson_schema_drafts.specs.References.{Seen, embed}
use Rattle.tinyjson_schema_drafts.specs.Retrieval.{with_retrieval_uri}
use Rattle.tinyjson_schema_report.specs.declared.meta.MetaError.{MetaError}
use Rattle.tinyjson_schema_report.specs.declared.meta.MetaError.TheVariants as meta
use Rattle.json_schema.specs.Failures.{Is, TellsEmbed, TellsSchema}
use Rattle.json_schema.specs.declared.failure.SchemaFailure.TheVariants as is
use Rattle.text_uri.specs.Relative.{relative_reference}
use Rattle.json_schema.specs.Names.{plain}

-- ---- failures

-- Status 3 and the message for a `$schema` that is not known; or out of memory.
abbrev pub TellsUnknown : List ℕ → Failure → Type 0
TellsUnknown u f = Is status.Refused (codes "\"" ++ (shown (chars u) ++ codes "\" is an unknown $schema")) f ⊎ (f ≡ failure.OutOfMemory)

-- The failure of a check by a meta-schema.
abbrev pub FailsMeta : MetaError → Failure → Type 0
FailsMeta (meta.Unknown u) f = TellsUnknown (string_bytes u) f
FailsMeta (meta.Refused place words) f = TellsSchema (is.Refused place words) f
FailsMeta (meta.Embed e) f = TellsEmbed e f
FailsMeta meta.OutOfMemory f = f ≡ failure.OutOfMemory

-- ---- the URIs of documents

-- the schema that was found in this file
abbrev pub found_in : List ℕ → Seen → Seen
found_in file c = (found_at (join_path (codes "/") (plain file)) c.0, c.1)

-- the URI of a document: the one that is given, or else the reference from the schema's file
abbrev pub document_uri : List ℕ → Option (List ℕ) → List ℕ → List ℕ
document_uri schema u file = unwrap_or u (relative_reference (plain schema) (plain file))

-- ---- further documents

-- with a document at u, which references also lead into by u where it was found there
abbrev pub with_ways : Bool → List ℕ → Seen → Seen
with_ways located u c = cond located (with_retrieval_uri u c) c

-- r is c with a document that was found at the URI u, and no document of c has that URI
abbrev pub EmbedsNew : Draft → Bool × List ℕ → Seen → Seen → Type 0
EmbedsNew d f c r = (has_definition c.0 f.1 ≡ false) × ((t : Tree) × (r ≡ with_ways f.0 f.1 (embed d f.1 t c)))

-- r is c with documents that were found at these URIs, the last one first
abbrev pub EmbedsAt : Draft → List (Bool × List ℕ) → Seen → Seen → Type 0
EmbedsAt d [] c r = r ≡ c
EmbedsAt d (f ∷ fs) c r = (e : Seen) × EmbedsAt d fs c e × EmbedsNew d f e r

abbrev pub EmbedsSome : Draft → Seen → Seen → Type 0
EmbedsSome d c r = (fs : List (Bool × List ℕ)) × EmbedsAt d fs c r
