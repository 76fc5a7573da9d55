-- The plain names of the schemas in a document (Core, 8.2.2). A document is a single schema resource here. So
-- `$dynamicAnchor` names a schema as `$anchor` does, and `$dynamicRef` can lead to no other one (8.2.3.2).
use Rattle.std.specs.Char.{is_ascii_alphabetic, is_ascii_alphanumeric}
use Rattle.std.specs.Prelude.{◌≡◌, ℕ, Bool, true, false, not, ◌&&◌, ◌||◌, ◌==◌, List, [], ◌∷◌, ◌++◌, Option, Some, None, cond, is_some, map}
use Rattle.std.specs.Prelude.{encode_utf8_all}
use Rattle.std.specs.Option.{option_map_or}
use Rattle.std.specs.Str.{bytes_eq}
use Rattle.std.specs.String.{string_bytes}
use Rattle.tinyjson.specs.Equality.{tree_eq}
use Rattle.tinyjson.specs.Tree.{Tree, string}
use Rattle.tinyjson.specs.View.{view}
use Rattle.tinyjson_schema_keywords.specs.Forms.{form_by}
use Rattle.tinyjson_schema_keywords.specs.Subschemas.{InSchema, schema_members}
use Rattle.tinyjson_schema_keywords.specs.declared.anchor.Anchor.{Anchor}
use Rattle.tinyjson_schema_keywords.specs.declared.keyword.Form.{Form}
use Rattle.tinyjson_schema_keywords.specs.declared.keyword.Form.TheVariants as form

-- a letter or `_`, and after it letters, digits, `-`, `.` and `_`
abbrev pub is_name_start : ℕ → Bool
is_name_start c = is_ascii_alphabetic c || c == 95

abbrev pub is_name_part : ℕ → Bool
is_name_part c = is_ascii_alphanumeric c || (c == 45 || (c == 46 || c == 95))

abbrev pub are_name_parts : List ℕ → Bool
are_name_parts [] = true
are_name_parts (c ∷ cs) = is_name_part c && are_name_parts cs

abbrev pub is_plain_name : List ℕ → Bool
is_plain_name [] = false
is_plain_name (c ∷ cs) = is_name_start c && are_name_parts cs

-- a name in UTF-8, and the schema that has it
abbrev pub Named : Type 0
Named = List ℕ × Tree

-- the name that a keyword gives the schema s
abbrev pub own_anchors : Tree → Tree → List Named
own_anchors s (string cs) = (encode_utf8_all cs, s) ∷ []
own_anchors s _ = []

abbrev pub anchors_by : Form → List Named → List Named
anchors_by form.Anchor own = own
anchors_by _ own = []

-- the names that a member of a schema gives
abbrev pub anchors_of : InSchema → List Named
anchors_of m = anchors_by (form_by m.2) (own_anchors m.0 m.3)

abbrev pub anchors_among : List InSchema → List Named
anchors_among [] = []
anchors_among (m ∷ ms) = anchors_of m ++ anchors_among ms

-- the anchors of a schema and of its subschemas
abbrev pub anchors_in : Tree → List Named
anchors_in t = anchors_among (schema_members t)

-- the schema of the first anchor with the name
abbrev pub anchored : List Named → List ℕ → Option Tree
anchored [] name = None
anchored (n ∷ ns) name = cond (bytes_eq n.0 name) (Some n.1) (anchored ns name)

-- the first name that a later anchor has too
abbrev pub repeated : List Named → Option (List ℕ)
repeated [] = None
repeated (n ∷ ns) = cond (is_some (anchored ns n.0)) (Some n.0) (repeated ns)

abbrev pub is_name : Option (List ℕ) → List ℕ → Bool
is_name o name = option_map_or (λ bs. bytes_eq bs name) o false

-- a plain name, but not the first one that the document has twice
abbrev pub is_own_name : Tree → Tree → Bool
is_own_name root (string cs) = is_plain_name (encode_utf8_all cs) && not (is_name (repeated (anchors_in root)) (encode_utf8_all cs))
is_own_name root _ = false

-- ---- for private contracts

abbrev pub named : Anchor → Named
named a = (string_bytes a.name.now, view a.schema.now)

abbrev pub all_named : List Anchor → List Named
all_named anchors = map named anchors

-- the same names and schemas, in the same order
abbrev pub are_same : List Named → List Named → Bool
are_same [] [] = true
are_same (n ∷ ns) (m ∷ ms) = bytes_eq n.0 m.0 && (tree_eq n.1 m.1 && are_same ns ms)
are_same _ _ = false

-- the list has exactly the anchors of the document
abbrev pub has_anchors : Tree → List Anchor → Bool
has_anchors root anchors = are_same (all_named anchors) (anchors_in root)

-- These are appended to the list.
abbrev pub Gathers : List Named → List Anchor → List Anchor → Type 0
Gathers ns old new = all_named new ≡ all_named old ++ ns
