-- The meta-schema of a schema, and a schema with documents embedded that its references lead into (JSON Schema 2020-12,
-- Core, 8.1.1, 9.1.1 and 9.3).
use Rattle.std.specs.List.{list_any}
use Rattle.std.specs.Option.{option_map_or}
use Rattle.std.specs.Prelude.{◌≡◌, ℕ, Bool, true, false, not, ◌&&◌, ◌||◌, List, [], ◌∷◌, Option, Some, None, cond, codes}
use Rattle.std.specs.Prelude.{encode_utf8_all, filter, flat_map, unwrap_or}
use Rattle.std.specs.Str.{bytes_eq, chars}
use Rattle.tinyjson.specs.Grammar.{IsText, IsAccepted}
use Rattle.tinyjson.specs.Tree.{Tree, string}
use Rattle.tinyjson.specs.View.{view}
use Rattle.text_uri.specs.Resolving.{without_fragment}
use Rattle.tinyjson_schema_keywords.specs.Forms.{form_by}
use Rattle.tinyjson_schema_keywords.specs.Names.{name}
use Rattle.tinyjson_schema_keywords.specs.Subschemas.{InSchema, schema_members}
use Rattle.tinyjson_schema_keywords.specs.declared.keyword.Form.{Form}
use Rattle.tinyjson_schema_keywords.specs.declared.keyword.Form.TheVariants as form
use Rattle.tinyjson_schema_keywords.specs.declared.keyword.Keyword.{Keyword}
use Rattle.tinyjson_schema_keywords.specs.declared.keyword.Keyword.TheVariants as kw
use Rattle.tinyjson_schema_bundle.specs.Scopes.{Reached, AreCopies, bundled}
use Rattle.tinyjson_schema_drafts.specs.Documents.{has_definition, string_of, with_document, with_member}
use Rattle.tinyjson_schema_drafts.specs.Meta.{Published, documents_with, has_document}
use Rattle.tinyjson_schema_drafts.specs.Dialects.{dialect_of, unknown_dialect}
use Rattle.tinyjson_schema_drafts.specs.Reading.{read_as}
use Rattle.tinyjson_schema_drafts.specs.declared.draft.Dialect.{Dialect}
use Rattle.tinyjson_schema_drafts.specs.declared.draft.Dialect.TheVariants.{Known}
use Rattle.tinyjson_schema_drafts.specs.declared.draft.Draft.{Draft}
use Rattle.tinyjson_schema_drafts.specs.declared.draft.Draft.TheVariants.{Draft4, Draft6, Draft7, Draft201909, Draft202012}
use Rattle.tinyjson_schema_drafts.specs.declared.compound.Compound.{Compound}
use Rattle.tinyjson_schema_drafts.specs.declared.compound.EmbedError.{EmbedError}
use Rattle.tinyjson_schema_drafts.specs.declared.compound.EmbedError.TheVariants as error

-- ---- the draft and the meta-schema of a schema

abbrev pub draft_by : Draft → Dialect → Draft
draft_by d (Known e) = e
draft_by d _ = d

-- the draft that a schema names, or else d
abbrev pub draft_of : Draft → Tree → Draft
draft_of d s = draft_by d (dialect_of s)

abbrev pub is_older : Draft → Bool
is_older Draft202012 = false
is_older _ = true

-- the URI of a draft's meta-schema
abbrev pub uri_of : Draft → List ℕ
uri_of Draft4 = codes "http://json-schema.org/draft-04/schema"
uri_of Draft6 = codes "http://json-schema.org/draft-06/schema"
uri_of Draft7 = codes "http://json-schema.org/draft-07/schema"
uri_of Draft201909 = codes "https://json-schema.org/draft/2019-09/schema"
uri_of Draft202012 = codes "https://json-schema.org/draft/2020-12/schema"

-- the URI of a schema's meta-schema: of the draft that it names, or else what its `$schema` is, or else of d
abbrev pub meta_schema_of : Draft → Tree → List ℕ
meta_schema_of d s = unwrap_or (unknown_dialect s) (uri_of (draft_of d s))

-- the meta-schema of a draft, and those of its vocabularies
abbrev pub documents_of : Draft → List Published
documents_of d = unwrap_or (documents_with (uri_of d)) []

-- ---- a schema with further documents

-- a schema in the words of 2020-12, and whether it or a document in it is of an older draft
abbrev pub Seen : Type 0
Seen = Tree × Bool

abbrev pub seen : Compound → Seen
seen c = (view c.tree, c.is_older)

-- the schema t alone, which is of the draft that it names, or else of d
abbrev pub compound_of : Draft → Tree → Seen
compound_of d t = (read_as d t, is_older (draft_of d t))

-- with the document t that was found at the URI u, and is of the draft that it names, or else of d
abbrev pub embed : Draft → List ℕ → Tree → Seen → Seen
embed d u t c = (with_document c.0 u (read_as d t), c.1 || is_older (draft_of d t))

-- with a published document, whose text has a tree
abbrev pub EmbedsOne : Published → Seen → Seen → Type 0
EmbedsOne d c r = (t : Tree) × IsText None (chars d.1) t × (r ≡ embed Draft202012 d.0 t c)

-- with each of them
abbrev pub EmbedsAll : List Published → Seen → Seen → Type 0
EmbedsAll [] c r = r ≡ c
EmbedsAll (d ∷ ds) c r = (e : Seen) × EmbedsOne d c e × EmbedsAll ds e r

-- with a reference to the URI u
abbrev pub with_reference : Tree → Tree → Tree
with_reference w s = with_member (name kw.Ref) w s

abbrev pub referring : List ℕ → Tree → Tree
referring u s = with_reference (string_of u) s

-- ---- the meta-schemas that a schema's references lead into

-- the URI of a reference, without its fragment
abbrev pub uri_in : Tree → Option (List ℕ)
uri_in (string cs) = Some (without_fragment (encode_utf8_all cs))
uri_in _ = None

abbrev pub reference_by : Form → Tree → Option (List ℕ)
reference_by form.Reference w = uri_in w
reference_by _ w = None

abbrev pub reference_of : InSchema → Option (List ℕ)
reference_of m = reference_by (form_by m.2) m.3

abbrev pub leads_into : List Published → InSchema → Bool
leads_into ds m = option_map_or (has_document ds) (reference_of m) false

abbrev pub led_into : List Published → List InSchema → Bool
led_into ds ms = list_any (leads_into ds) ms

-- the member is the `$id` u
abbrev pub is_text : List ℕ → Tree → Bool
is_text u (string cs) = bytes_eq (encode_utf8_all cs) u
is_text u _ = false

abbrev pub id_by : List ℕ → Option Keyword → Tree → Bool
id_by u (Some kw.Id) w = is_text u w
id_by u _ w = false

abbrev pub has_id : List ℕ → InSchema → Bool
has_id u m = id_by u m.2 m.3

-- a schema in s has the URI u
abbrev pub has_resource : Tree → List ℕ → Bool
has_resource s u = has_definition s u || list_any (has_id u) (schema_members s)

abbrev pub lacking : Tree → List Published → List Published
lacking s ds = filter (λ d. not (has_resource s d.0)) ds

-- those of a draft that s lacks, if one of the references among ms leads into one of the draft
abbrev pub wanted_of : Tree → List InSchema → Draft → List Published
wanted_of s ms d = cond (led_into (documents_of d) ms) (lacking s (documents_of d)) []

abbrev pub wanted_among : List Draft → Tree → List InSchema → List Published
wanted_among ds s ms = flat_map (wanted_of s ms) ds

-- those that s lacks, of the drafts that references in b lead into
abbrev pub wanted : Tree → Tree → List Published
wanted s b = wanted_among (Draft4 ∷ Draft6 ∷ Draft7 ∷ Draft201909 ∷ Draft202012 ∷ []) s (schema_members b)

-- r is c as one resource, with the meta-schemas that c lacks, and into which references lead that lead nowhere in it
abbrev pub HasMetaSchemas : Seen → Seen → Type 0
HasMetaSchemas c r = (copies : List Reached) × (all : List Reached) × (e : Seen)
    × EmbedsAll (wanted c.0 (bundled copies c.0)) c e × (r ≡ (bundled all e.0, e.1)) × AreCopies c.0 copies × AreCopies e.0 all

-- r is the schema t as one resource in the words of 2020-12
abbrev pub IsResourceOf : Draft → Tree → Tree → Type 0
IsResourceOf d t r = (copies : List Reached) × (r ≡ bundled copies (read_as d t)) × AreCopies (read_as d t) copies

-- a text is no JSON, or memory ran out
abbrev pub IsCause : EmbedError → Type 0
IsCause (error.NotJson m e) = ¬ IsAccepted None (chars m.text.now)
IsCause error.OutOfMemory = Unit {0}
