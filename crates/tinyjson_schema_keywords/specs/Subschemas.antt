-- The parts of a schema, and all members of a schema and of its subschemas.
use Rattle.std.specs.Prelude.{◌≡◌, ℕ, suc, List, [], ◌∷◌, ◌++◌, Option, None, encode_utf8_all, map}
use Rattle.std.specs.String.{string_bytes}
use Rattle.tinyjson.specs.Tree.{Tree, array, object, Items, no_items, item, Members, no_members, member}
use Rattle.tinyjson.specs.View.{view, text}
use Rattle.tinyjson_schema_keywords.specs.Applied.{items_in, members_in}
use Rattle.tinyjson_schema_keywords.specs.Forms.{form_at}
use Rattle.tinyjson_schema_keywords.specs.Names.{keywords, keyword_among}
use Rattle.tinyjson_schema_keywords.specs.declared.keyword.Form.{Form}
use Rattle.tinyjson_schema_keywords.specs.declared.keyword.Form.TheVariants as form
use Rattle.tinyjson_schema_keywords.specs.declared.keyword.Keyword.{Keyword}
use Rattle.tinyjson_schema_keywords.specs.declared.subschemas.Part.{Part}
use Rattle.tinyjson_schema_keywords.specs.declared.subschemas.SchemaMember.{SchemaMember}
use Rattle.tinyjson_schema_keywords.specs.declared.subschemas.Token.{Token}
use Rattle.tinyjson_schema_keywords.specs.declared.subschemas.Token.TheVariants as token

-- ---- the parts of a value, by the form that it needs

-- what leads to a part: a key, or an index
pub data Way : Type 0 where
  by_key : List ℕ → Way
  by_index : ℕ → Way

-- a part: the way to it, its keyword, the form that it needs, and its tree
abbrev pub InForm : Type 0
InForm = Way × Option Keyword × Form × Tree

-- the members of a schema
abbrev pub keyword_parts : Members → List InForm
keyword_parts no_members = []
keyword_parts (member k w ms) = (by_key k, keyword_among keywords (encode_utf8_all k), form_at (encode_utf8_all k), w) ∷ keyword_parts ms

-- the schemas in a list, the first with the index i
abbrev pub item_parts : ℕ → Items → List InForm
item_parts i no_items = []
item_parts i (item t ts) = (by_index i, None, form.Schema, t) ∷ item_parts (suc i) ts

-- the schemas in an object of them
abbrev pub entry_parts : Members → List InForm
entry_parts no_members = []
entry_parts (member k t ms) = (by_key k, None, form.Schema, t) ∷ entry_parts ms

abbrev pub parts_of : Form → Tree → List InForm
parts_of form.Schema w = keyword_parts (members_in w)
parts_of form.Schemas w = item_parts 0 (items_in w)
parts_of form.SchemaMap w = entry_parts (members_in w)
parts_of form.PatternMap w = entry_parts (members_in w)
parts_of _ w = []

abbrev pub way_of : Token → Way
way_of (token.Key k) = by_key (text k.now)
way_of (token.Index i) = by_index i

abbrev pub part_seen : Part → InForm
part_seen p = (way_of p.token, p.keyword, p.form, view p.value.now)

abbrev pub all_parts : List Part → List InForm
all_parts ps = map part_seen ps

-- ---- all members of a schema and of its subschemas

-- a member of a schema: that schema, the name in UTF-8, its keyword, and the value
abbrev pub InSchema : Type 0
InSchema = Tree × List ℕ × Option Keyword × Tree

abbrev pub in_schema : Tree → List ℕ → Tree → InSchema
in_schema s k w = (s, k, keyword_among keywords k, w)

-- the members of the schemas in a keyword's value: a schema, a list of schemas or an object of schemas
abbrev pub members_by : Form → List InSchema → List InSchema → List InSchema → List InSchema
members_by form.Schema one list entries = one
members_by form.Schemas one list entries = list
members_by form.SchemaMap one list entries = entries
members_by form.PatternMap one list entries = entries
members_by _ one list entries = []

abbrev mutual
  -- the members of a schema and of its subschemas, in the order of their keys
  pub schema_members : Tree → List InSchema
  schema_members (object ms) = members_among (object ms) ms
  schema_members _ = []

  -- members of the schema s, each before those in its value
  pub members_among : Tree → Members → List InSchema
  members_among s no_members = []
  members_among s (member k w ms) = in_schema s (encode_utf8_all k) w ∷ (members_by (form_at (encode_utf8_all k)) (schema_members w)
      (members_in_list w) (members_in_map w) ++ members_among s ms)

  pub members_in_list : Tree → List InSchema
  members_in_list (array ts) = members_of_items ts
  members_in_list _ = []

  pub members_in_map : Tree → List InSchema
  members_in_map (object ms) = members_of_entries ms
  members_in_map _ = []

  pub members_of_items : Items → List InSchema
  members_of_items no_items = []
  members_of_items (item t ts) = schema_members t ++ members_of_items ts

  pub members_of_entries : Members → List InSchema
  members_of_entries no_members = []
  members_of_entries (member k t ms) = schema_members t ++ members_of_entries ms

-- ---- for private contracts

abbrev pub members_by_form : Form → Tree → List InSchema
members_by_form f w = members_by f (schema_members w) (members_in_list w) (members_in_map w)

-- the part of a value of the form f as a member of a schema, if it is one
abbrev pub own_member : Form → Tree → InForm → List InSchema
own_member form.Schema s (by_key k, keyword, f, w) = (s, encode_utf8_all k, keyword, w) ∷ []
own_member _ s p = []

abbrev pub seen : SchemaMember → InSchema
seen m = (view m.schema.now, string_bytes m.name.now, m.keyword, view m.value.now)

abbrev pub all_seen : List SchemaMember → List InSchema
all_seen ms = map seen ms

-- These are appended to the list.
abbrev pub Gathers : List InSchema → List SchemaMember → List SchemaMember → Type 0
Gathers ms old new = all_seen new ≡ all_seen old ++ ms
