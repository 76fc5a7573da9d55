-- The meta-schemas of the drafts (draft 4, 6 and 7: Core, section 6 or 7; 2019-09 and 2020-12: Core, 8.1).
use Rattle.std.specs.Prelude.{ℕ, Bool, false, ◌||◌, List, [], ◌∷◌, Option, Some, None, cond, codes}
use Rattle.std.specs.Str.{bytes_eq}
use Rattle.tinyjson_schema_drafts.specs.declared.meta.draft_2019_09.TheConstants as in_2019_09
use Rattle.tinyjson_schema_drafts.specs.declared.meta.draft_2020_12.TheConstants as in_2020_12
use Rattle.tinyjson_schema_drafts.specs.declared.meta.draft_4.TheConstants as in_draft_4
use Rattle.tinyjson_schema_drafts.specs.declared.meta.draft_6.TheConstants as in_draft_6
use Rattle.tinyjson_schema_drafts.specs.declared.meta.draft_7.TheConstants as in_draft_7
use Rattle.tinyjson_schema_drafts.specs.declared.meta.MetaSchema.{MetaSchema}

-- a document: its URI, and its text
abbrev pub Published : Type 0
Published = List ℕ × List ℕ

abbrev pub published : MetaSchema → Published
published m = (m.uri.now, m.text.now)

-- The meta-schema of each draft, and those of its vocabularies.
abbrev pub draft_4 : List Published
draft_4 = (codes "http://json-schema.org/draft-04/schema", in_draft_4.SCHEMA.now) ∷ []

abbrev pub draft_6 : List Published
draft_6 = (codes "http://json-schema.org/draft-06/schema", in_draft_6.SCHEMA.now) ∷ []

abbrev pub draft_7 : List Published
draft_7 = (codes "http://json-schema.org/draft-07/schema", in_draft_7.SCHEMA.now) ∷ []

abbrev pub draft_2019_09 : List Published
draft_2019_09 = (codes "https://json-schema.org/draft/2019-09/schema", in_2019_09.SCHEMA.now)
    ∷ (codes "https://json-schema.org/draft/2019-09/meta/core", in_2019_09.CORE.now)
    ∷ (codes "https://json-schema.org/draft/2019-09/meta/applicator", in_2019_09.APPLICATOR.now)
    ∷ (codes "https://json-schema.org/draft/2019-09/meta/validation", in_2019_09.VALIDATION.now)
    ∷ (codes "https://json-schema.org/draft/2019-09/meta/meta-data", in_2019_09.META_DATA.now)
    ∷ (codes "https://json-schema.org/draft/2019-09/meta/format", in_2019_09.FORMAT.now)
    ∷ (codes "https://json-schema.org/draft/2019-09/meta/content", in_2019_09.CONTENT.now) ∷ []

abbrev pub draft_2020_12 : List Published
draft_2020_12 = (codes "https://json-schema.org/draft/2020-12/schema", in_2020_12.SCHEMA.now)
    ∷ (codes "https://json-schema.org/draft/2020-12/meta/core", in_2020_12.CORE.now)
    ∷ (codes "https://json-schema.org/draft/2020-12/meta/applicator", in_2020_12.APPLICATOR.now)
    ∷ (codes "https://json-schema.org/draft/2020-12/meta/unevaluated", in_2020_12.UNEVALUATED.now)
    ∷ (codes "https://json-schema.org/draft/2020-12/meta/validation", in_2020_12.VALIDATION.now)
    ∷ (codes "https://json-schema.org/draft/2020-12/meta/meta-data", in_2020_12.META_DATA.now)
    ∷ (codes "https://json-schema.org/draft/2020-12/meta/format-annotation", in_2020_12.FORMAT_ANNOTATION.now)
    ∷ (codes "https://json-schema.org/draft/2020-12/meta/content", in_2020_12.CONTENT.now)
    ∷ (codes "https://json-schema.org/draft/2020-12/meta/format-assertion", in_2020_12.FORMAT_ASSERTION.now) ∷ []

abbrev pub has_document : List Published → List ℕ → Bool
has_document [] u = false
has_document (d ∷ ds) u = bytes_eq d.0 u || has_document ds u

-- those of the draft that has a document with this URI
abbrev pub documents_with : List ℕ → Option (List Published)
documents_with u = cond (has_document draft_2020_12 u) (Some draft_2020_12)
    (cond (has_document draft_2019_09 u) (Some draft_2019_09)
    (cond (has_document draft_7 u) (Some draft_7)
    (cond (has_document draft_6 u) (Some draft_6)
    (cond (has_document draft_4 u) (Some draft_4) None))))
