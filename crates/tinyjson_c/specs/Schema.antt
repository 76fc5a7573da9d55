-- Whether a text is valid by a schema (JSON Schema), and the report if it is not.
use Rattle.std.specs.Prelude.{◌≡◌, ◌⊎◌, ℕ, true, false, List, Option, None, Some, Result, Ok, Err, min}
use Rattle.std.specs.Prelude.{encode_utf8_all, string_bytes}
use Rattle.std.specs.Str.{chars}
use Rattle.tinyjson.specs.Text.{compact}
use Rattle.tinyjson_c.specs.Buffer.{HasWritten, LacksRoom}
use Rattle.tinyjson_c.specs.Place.{length_place}
use Rattle.tinyjson_c.specs.Stop.{IsStopped, IsTextOf, Stops, stop_place, stop_status}
use Rattle.tinyjson_c.specs.declared.place.TinyjsonPlace.{TinyjsonPlace}
use Rattle.tinyjson_c.specs.declared.schema.NoSchema.{NoSchema}
use Rattle.tinyjson_c.specs.declared.schema.NoSchema.TheVariants as no
use Rattle.tinyjson_c.specs.declared.schema.Unchecked.{Unchecked}
use Rattle.tinyjson_c.specs.declared.schema.Unchecked.TheVariants as un
use Rattle.tinyjson_c.specs.declared.schema.Verdict.{Verdict}
use Rattle.tinyjson_c.specs.declared.schema.Verdict.TheVariants.{Valid, Invalid, Misfit}
use Rattle.tinyjson_c.specs.declared.status.TheConstants.{BAD_SCHEMA, INVALID, OK, OUT_OF_MEMORY, SCHEMA_FAULT, STEP_LIMIT, TOO_SMALL}
use Rattle.tinyjson_c.specs.declared.stop.Stop.{Stop}
use Rattle.tinyjson_c.specs.declared.stop.Stop.TheVariants as stop
use Rattle.tinyjson_grammar.specs.Tree.{Tree}
use Rattle.tinyjson_pointer.specs.Text.{pointer_text}
use Rattle.tinyjson_schema.specs.Nested.{Nests}
use Rattle.tinyjson_schema.specs.Reading.{tree_of}
use Rattle.tinyjson_schema.specs.Refused.{IsAboveAt, IsRefusedAt}
use Rattle.tinyjson_schema.specs.Schemas.{is_schema}
use Rattle.tinyjson_schema.specs.Valid.{IsValid}
use Rattle.tinyjson_schema.specs.declared.schema.Schema.{Schema}
use Rattle.tinyjson_schema_drafts.specs.References.{IsResourceOf}
use Rattle.tinyjson_schema_drafts.specs.declared.draft.Draft.TheVariants.{Draft202012}
use Rattle.tinyjson_schema_keywords.specs.declared.keyword.Form.TheVariants as form
use Rattle.tinyjson_schema_report.specs.Finds.{Finds}
use Rattle.tinyjson_schema_report.specs.Located.{IsLocated, located_tree}
use Rattle.tinyjson_schema_report.specs.declared.located.Located.{Located}

-- how many containers may be nested in a schema and in a text that is checked, in a call with this limit
abbrev pub schema_depth : ℕ → ℕ
schema_depth depth = min depth 100

-- how many nested schemas may be applied
abbrev pub step_limit : ℕ
step_limit = 200

-- the bytes are the text of this schema, in the words of 2020-12 and with all of its resources in one
abbrev pub IsSchemaTree : Option ℕ → List ℕ → Tree → Type 0
IsSchemaTree limit bytes s =
    (d : Tree) × IsTextOf limit bytes d × IsResourceOf Draft202012 d s

-- the same, and the schema can be applied
abbrev pub IsSchemaOf : Option ℕ → List ℕ → Tree → Type 0
IsSchemaOf limit bytes s = IsSchemaTree limit bytes s × (is_schema s true s ≡ true)

-- The text's tree is valid by the schema.
pub record IsValidText (limit : Option ℕ) (text schema : List ℕ) : Type 0 where
  pub by : Tree
  pub tree : Tree
  pub is_schema : IsSchemaOf limit schema by
  pub is_text : IsTextOf limit text tree
  pub is_valid : IsValid by tree

-- The tree of a text is valid by the schema, or not: then this is what it violates, and where.
abbrev pub IsFound : Tree → List ℕ → Tree → Option Located → Type 0
IsFound s text t None = Finds step_limit s t (Ok None)
IsFound s text t (Some l) = Finds step_limit s t (Ok (Some l.finding)) × IsLocated (chars text) l

-- The text's tree is not valid by the schema: this is what it violates, and where.
pub record Violates (limit : Option ℕ) (text schema : List ℕ) (l : Located) : Type 0 where
  pub by : Tree
  pub tree : Tree
  pub is_schema : IsSchemaOf limit schema by
  pub is_text : IsTextOf limit text tree
  pub found : IsFound by text tree (Some l)

-- The schema can't be applied at the place with these tokens, or a pattern there is too deep or too large.
abbrev pub IsFaultyAt : Tree → List (List ℕ) → Type 0
IsFaultyAt s ks = ((is_schema s true s ≡ false) × IsRefusedAt s true form.Schema s ks) ⊎ IsAboveAt form.Schema s ks

-- The same for the bytes of a schema.
abbrev pub IsMisfit : Option ℕ → List ℕ → List (List ℕ) → Type 0
IsMisfit limit schema ks = (s : Tree) × IsSchemaTree limit schema s × IsFaultyAt s ks

-- The bytes of a schema are no text, with this place.
abbrev pub IsBadSchema : Option ℕ → List ℕ → TinyjsonPlace → Type 0
IsBadSchema limit schema place = (status : ℕ) × Stops limit schema 1 status place × ¬ (status ≡ OUT_OF_MEMORY)

-- More schemas than this number are applied one within the other, by s to t; or it is 0, and the check takes too many steps.
abbrev pub Exceeds : Tree → Tree → ℕ → Type 0
Exceeds s t nested = (nested ≡ 0) ⊎ ((nested ≡ step_limit) × Nests s step_limit s t)

-- the same for the tree that a text has
abbrev pub ExceedsText : Option ℕ → Tree → List ℕ → ℕ → Type 0
ExceedsText limit s text nested = (t : Tree) × IsTextOf limit text t × Exceeds s t nested

-- The schema can be applied, and the text has a tree, whose check takes too much.
abbrev pub IsUncheckable : Option ℕ → List ℕ → List ℕ → ℕ → Type 0
IsUncheckable limit text schema nested = (s : Tree) × IsSchemaOf limit schema s × ExceedsText limit s text nested

-- the report of what is not valid, with this line, and the column at which the part begins
abbrev pub report_text : ℕ → Located → List ℕ
report_text line l = encode_utf8_all (compact (located_tree line l))

abbrev pub misfit_text : List (List ℕ) → List ℕ
misfit_text ks = encode_utf8_all (pointer_text ks)

-- ---- for private contracts

-- what is known of a text and a schema
abbrev pub Decides : Option ℕ → List ℕ → List ℕ → Verdict → Type 0
Decides limit text schema Valid = IsValidText limit text schema
Decides limit text schema (Invalid report) =
    (l : Located) × Violates limit text schema l × (report.items ≡ report_text l.place.line l)
Decides limit text schema (Misfit place) =
    (ks : List (List ℕ)) × IsMisfit limit schema ks × (string_bytes place ≡ misfit_text ks)

-- these bytes are written, with this status; or they do not fit
abbrev pub PutsBytes : List ℕ → ℕ → List ℕ → List ℕ → TinyjsonPlace → ℕ → Type 0
PutsBytes bytes written old new place status = ((status ≡ written) × HasWritten bytes old new place)
    ⊎ ((status ≡ TOO_SMALL) × LacksRoom bytes old place × (new ≡ old))

-- the report, or the pointer, is written, with its status
abbrev pub Puts : Verdict → List ℕ → List ℕ → TinyjsonPlace → ℕ → Type 0
Puts Valid old new place status = (status ≡ OK) × (place ≡ length_place 0 0) × (new ≡ old)
Puts (Invalid report) old new place status = PutsBytes report.items INVALID old new place status
Puts (Misfit fault) old new place status = PutsBytes (string_bytes fault) SCHEMA_FAULT old new place status

-- why a text is not checked
abbrev pub IsUnchecked : Option ℕ → List ℕ → List ℕ → Unchecked → Type 0
IsUnchecked limit text schema (un.Text stop.OutOfMemory) = Unit {0}
IsUnchecked limit text schema (un.Text s) = (b : Tree) × IsSchemaOf limit schema b × IsStopped limit text s
IsUnchecked limit text schema (un.Schema s) = IsStopped limit schema s
IsUnchecked limit text schema (un.StepLimit n) = IsUncheckable limit text schema n

-- the schema that the tree is
abbrev pub IsSchemaBy : Tree → Schema → Type 0
IsSchemaBy s schema = (tree_of schema ≡ s) × (is_schema s true s ≡ true)

-- the text of the place with these tokens, or memory ran out
abbrev pub HasPlace : List (List ℕ) → NoSchema → Type 0
HasPlace ks (no.Misfit place) = string_bytes place ≡ misfit_text ks
HasPlace ks no.OutOfMemory = Unit {0}

-- why the tree is no schema
abbrev pub IsNoSchema : Tree → NoSchema → Type 0
IsNoSchema s (no.Misfit place) = (ks : List (List ℕ)) × IsFaultyAt s ks × (string_bytes place ≡ misfit_text ks)
IsNoSchema s no.OutOfMemory = Unit {0}

-- what a text violates, given the tree of a schema; or why it is not checked
abbrev pub FindsText : Option ℕ → Tree → List ℕ → Result (Option Located) Unchecked → Type 0
FindsText limit s text (Ok o) = (t : Tree) × IsTextOf limit text t × IsFound s text t o
FindsText limit s text (Err (un.Text e)) = IsStopped limit text e
FindsText limit s text (Err (un.Schema e)) = ⊥
FindsText limit s text (Err (un.StepLimit n)) = ExceedsText limit s text n

-- the same for the tree of a text
abbrev pub FindsTree : Tree → List ℕ → Tree → Result (Option Located) Unchecked → Type 0
FindsTree s text t (Ok o) = IsFound s text t o
FindsTree s text t (Err (un.Text e)) = e ≡ stop.OutOfMemory
FindsTree s text t (Err (un.Schema e)) = ⊥
FindsTree s text t (Err (un.StepLimit n)) = Exceeds s t n

-- `Decides` and `IsUnchecked`, given a schema that can be applied
abbrev pub DecidesBy : Option ℕ → Tree → List ℕ → Result Verdict Unchecked → Type 0
DecidesBy limit s text (Ok Valid) = (t : Tree) × IsTextOf limit text t × IsValid s t
DecidesBy limit s text (Ok (Invalid report)) = (t : Tree) × IsTextOf limit text t
    × (l : Located) × IsFound s text t (Some l) × (report.items ≡ report_text l.place.line l)
DecidesBy limit s text (Ok (Misfit place)) = ⊥
DecidesBy limit s text (Err (un.Text e)) = IsStopped limit text e
DecidesBy limit s text (Err (un.Schema e)) = ⊥
DecidesBy limit s text (Err (un.StepLimit n)) = ExceedsText limit s text n

-- the same, given the tree of a schema
abbrev pub DecidesTree : Option ℕ → Tree → List ℕ → Result Verdict Unchecked → Type 0
DecidesTree limit s text (Ok (Misfit place)) = (ks : List (List ℕ)) × IsFaultyAt s ks × (string_bytes place ≡ misfit_text ks)
DecidesTree limit s text (Err (un.Schema e)) = e ≡ stop.OutOfMemory
DecidesTree limit s text result = (is_schema s true s ≡ true) × DecidesBy limit s text result

-- a schema that is no text has a status of its own
abbrev pub schema_status : Stop → ℕ
schema_status stop.OutOfMemory = OUT_OF_MEMORY
schema_status _ = BAD_SCHEMA

abbrev pub unchecked_status : Unchecked → ℕ
unchecked_status (un.Text s) = stop_status s
unchecked_status (un.Schema s) = schema_status s
unchecked_status (un.StepLimit n) = STEP_LIMIT

abbrev pub unchecked_place : ℕ → Unchecked → TinyjsonPlace
unchecked_place text (un.Text s) = stop_place text s
unchecked_place text (un.Schema s) = stop_place 1 s
unchecked_place text (un.StepLimit n) = length_place text n
