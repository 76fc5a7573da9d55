-- A schema with further documents, each embedded as a resource (JSON Schema 2020-12, Core, 9.1.1 and 9.3.1).
use Rattle.std.specs.Prelude.{ℕ, Bool, true, false, List, [], Option, Some, None, encode_utf8_all, is_some, unwrap_or}
use Rattle.std.specs.Option.{option_map_or}
use Rattle.std.specs.Str.{chars}
use Rattle.tinyjson.specs.Index.{tree_at_key}
use Rattle.tinyjson.specs.Tree.{Tree, boolean, string, object, no_members, member, put, remove}
use Rattle.text_uri.specs.Resolving.{resolved}
use Rattle.tinyjson_schema_keywords.specs.Applied.{schema_at}
use Rattle.tinyjson_schema_keywords.specs.Names.{name}
use Rattle.tinyjson_schema_keywords.specs.declared.keyword.Keyword.TheVariants as kw

-- the string of bytes in UTF-8
abbrev pub string_of : List ℕ → Tree
string_of bs = string (chars bs)

-- an object with this member
abbrev pub with_member : List ℕ → Tree → Tree → Tree
with_member k w (object ms) = object (put k w ms)
with_member k w t = t

-- The `$id` of a schema that was found at the URI u: its own by u, or else u.
abbrev pub id_by : List ℕ → Option Tree → Tree
id_by u None = string_of u
id_by u (Some (string cs)) = string_of (resolved u (encode_utf8_all cs))
id_by u (Some w) = w

abbrev pub id_found : List ℕ → Tree → Tree
id_found u s = id_by u (schema_at s kw.Id)

abbrev pub found_at : List ℕ → Tree → Tree
found_at u s = with_member (name kw.Id) (id_found u s) s

-- the schemas that are truth values, as objects (Core, 4.3.2)
abbrev pub as_object : Tree → Tree
as_object (boolean true) = object no_members
as_object (boolean false) = object (member (name kw.Not) (object no_members) no_members)
as_object t = t

-- the base URI of a whole schema
abbrev pub base_by : Option Tree → List ℕ
base_by (Some (string cs)) = encode_utf8_all cs
base_by _ = []

abbrev pub base_of : Tree → List ℕ
base_of s = base_by (schema_at s kw.Id)

-- `$defs`, or an empty object
abbrev pub or_empty : Option Tree → Tree
or_empty o = unwrap_or o (object no_members)

abbrev pub definitions : Tree → Tree
definitions s = or_empty (schema_at s kw.Defs)

-- The schema s with the document d that was found at the URI u, which the base URI of s resolves. Its key in `$defs` is u.
abbrev pub with_document : Tree → List ℕ → Tree → Tree
with_document s u d =
    with_member (name kw.Defs) (with_member (chars u) (found_at (resolved (base_of s) u) (as_object d)) (definitions s)) s

abbrev pub has_key : Tree → List ℕ → Bool
has_key t k = is_some (tree_at_key t (chars k))

-- `$defs` has the key
abbrev pub has_definition : Tree → List ℕ → Bool
has_definition s k = option_map_or (λ defs. has_key defs k) (schema_at s kw.Defs) false

-- ---- for private contracts

abbrev pub without_definitions : Tree → Tree
without_definitions (object ms) = object (remove (name kw.Defs) ms)
without_definitions t = t
