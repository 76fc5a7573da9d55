-- A document that references also lead into by the URI where it was found (JSON Schema 2020-12, Core, 8.2.1 and 9.1.1).
use Rattle.std.specs.Option.{option_map_or}
use Rattle.std.specs.Prelude.{ℕ, ◌||◌, ◌==◌, List, [], ◌++◌, Option, Some, None, bytes_eq, codes, cond, length, option_and_then}
use Rattle.std.specs.Str.{chars}
use Rattle.tinyjson.specs.Index.{tree_at_key}
use Rattle.tinyjson.specs.Tree.{Tree, object, no_members, put}
use Rattle.text_uri.specs.Resolving.{resolved, without_fragment}
use Rattle.tinyjson_schema_keywords.specs.Applied.{schema_at}
use Rattle.tinyjson_schema_keywords.specs.Names.{name}
use Rattle.tinyjson_schema_keywords.specs.declared.keyword.Keyword.TheVariants as kw
use Rattle.tinyjson_schema_drafts.specs.Documents.{base_of, string_of}
use Rattle.tinyjson_schema_drafts.specs.References.{Seen, embed}
use Rattle.tinyjson_schema_drafts.specs.declared.draft.Draft.TheVariants.{Draft202012}

-- the `$id` of the document that was found at the URI u
abbrev pub document_at : List ℕ → Tree → Option Tree
document_at u s = option_and_then (λ defs. tree_at_key defs (chars u)) (schema_at s kw.Defs)

abbrev pub document_id : List ℕ → Tree → List ℕ
document_id u s = option_map_or base_of (document_at u s) []

-- a document's URI, without its fragment, if there is one, and it is not the URI where it was found
abbrev pub if_other : List ℕ → List ℕ → Option (List ℕ)
if_other found own = cond ((length own == 0) || bytes_eq own found) None (Some own)

abbrev pub other_uri : List ℕ → Tree → Option (List ℕ)
other_uri u s = if_other (without_fragment (resolved (base_of s) u)) (without_fragment (document_id u s))

-- with a resource, behind the URI u, that refers to the one at this URI
abbrev pub way_to : List ℕ → Tree
way_to own = object (put (name kw.Ref) (string_of own) (put (name kw.Id) (string_of []) no_members))

abbrev pub with_way : List ℕ → Seen → List ℕ → Seen
with_way u c own = embed Draft202012 (u ++ codes "#") (way_to own) c

-- with a document at u, which references also lead into by u if it gives itself another URI
abbrev pub with_retrieval_uri : List ℕ → Seen → Seen
with_retrieval_uri u c = option_map_or (with_way u c) (other_uri u c.0) c
