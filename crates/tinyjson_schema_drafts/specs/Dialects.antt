-- The drafts that schemas name by `$schema` (draft 4, 6, 7, 2019-09 and 2020-12: Core, section 6, 7 or 8.1.1).
use Rattle.std.specs.Prelude.{ℕ, Bool, ◌||◌, List, Option, Some, None, cond, codes, encode_utf8_all, option_and_then}
use Rattle.std.specs.Option.{option_map_or}
use Rattle.std.specs.Str.{bytes_eq}
use Rattle.tinyjson.specs.Tree.{Tree, string, object, remove}
use Rattle.tinyjson_schema_keywords.specs.Applied.{schema_at}
use Rattle.tinyjson_schema_keywords.specs.Names.{name}
use Rattle.tinyjson_schema_keywords.specs.declared.keyword.Keyword.TheVariants as kw
use Rattle.tinyjson_schema_drafts.specs.declared.draft.Dialect.{Dialect}
use Rattle.tinyjson_schema_drafts.specs.declared.draft.Dialect.TheVariants.{Missing, Known, Unknown}
use Rattle.tinyjson_schema_drafts.specs.declared.draft.Draft.TheVariants.{Draft4, Draft6, Draft7, Draft201909, Draft202012}

abbrev pub is_2020_12 : List ℕ → Bool
is_2020_12 bs = bytes_eq bs (codes "https://json-schema.org/draft/2020-12/schema")
    || (bytes_eq bs (codes "https://json-schema.org/draft/2020-12/schema#")
    || (bytes_eq bs (codes "http://json-schema.org/draft/2020-12/schema")
    || bytes_eq bs (codes "http://json-schema.org/draft/2020-12/schema#")))

abbrev pub is_2019_09 : List ℕ → Bool
is_2019_09 bs = bytes_eq bs (codes "https://json-schema.org/draft/2019-09/schema")
    || (bytes_eq bs (codes "https://json-schema.org/draft/2019-09/schema#")
    || (bytes_eq bs (codes "http://json-schema.org/draft/2019-09/schema")
    || bytes_eq bs (codes "http://json-schema.org/draft/2019-09/schema#")))

abbrev pub is_draft_7 : List ℕ → Bool
is_draft_7 bs = bytes_eq bs (codes "http://json-schema.org/draft-07/schema#")
    || (bytes_eq bs (codes "http://json-schema.org/draft-07/schema")
    || (bytes_eq bs (codes "https://json-schema.org/draft-07/schema#")
    || bytes_eq bs (codes "https://json-schema.org/draft-07/schema")))

abbrev pub is_draft_6 : List ℕ → Bool
is_draft_6 bs = bytes_eq bs (codes "http://json-schema.org/draft-06/schema#")
    || (bytes_eq bs (codes "http://json-schema.org/draft-06/schema")
    || (bytes_eq bs (codes "https://json-schema.org/draft-06/schema#")
    || bytes_eq bs (codes "https://json-schema.org/draft-06/schema")))

abbrev pub is_draft_4 : List ℕ → Bool
is_draft_4 bs = bytes_eq bs (codes "http://json-schema.org/draft-04/schema#")
    || (bytes_eq bs (codes "http://json-schema.org/draft-04/schema")
    || (bytes_eq bs (codes "https://json-schema.org/draft-04/schema#")
    || bytes_eq bs (codes "https://json-schema.org/draft-04/schema")))

-- what the URI names
abbrev pub draft_named : List ℕ → Dialect
draft_named bs = cond (is_2020_12 bs) (Known Draft202012) (cond (is_2019_09 bs) (Known Draft201909)
    (cond (is_draft_7 bs) (Known Draft7) (cond (is_draft_6 bs) (Known Draft6) (cond (is_draft_4 bs) (Known Draft4) Unknown))))

abbrev pub dialect_named : Tree → Dialect
dialect_named (string cs) = draft_named (encode_utf8_all cs)
dialect_named _ = Missing

abbrev pub dialect_of : Tree → Dialect
dialect_of t = option_map_or dialect_named (schema_at t kw.Schema) Missing

-- a URI that names no draft
abbrev pub unknown_by : Dialect → List ℕ → Option (List ℕ)
unknown_by Unknown bs = Some bs
unknown_by _ bs = None

abbrev pub unknown_uri : List ℕ → Option (List ℕ)
unknown_uri bs = unknown_by (draft_named bs) bs

abbrev pub unknown_in : Tree → Option (List ℕ)
unknown_in (string cs) = unknown_uri (encode_utf8_all cs)
unknown_in _ = None

abbrev pub unknown_dialect : Tree → Option (List ℕ)
unknown_dialect t = option_and_then unknown_in (schema_at t kw.Schema)

abbrev pub without_dialect : Tree → Tree
without_dialect (object ms) = object (remove (name kw.Schema) ms)
without_dialect t = t
