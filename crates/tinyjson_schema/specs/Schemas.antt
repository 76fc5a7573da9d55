-- Which trees are schemas that can be applied.
use Rattle.std.specs.Prelude.{Bool, true, false, ◌&&◌, encode_utf8_all}
use Rattle.tinyjson.specs.Access.{is_boolean, is_number, is_string, is_array}
use Rattle.tinyjson.specs.Tree.{Tree, boolean, array, object, Items, no_items, item, Members, no_members, member}
use Rattle.tinyjson_schema_keywords.specs.Forms.{form_at, is_some_item}
use Rattle.tinyjson_schema_keywords.specs.Anchors.{is_own_name}
use Rattle.tinyjson_schema_keywords.specs.declared.keyword.Form.{Form}
use Rattle.tinyjson_schema_keywords.specs.declared.keyword.Form.TheVariants as form
use Rattle.tinyjson_schema_assertions.specs.Operands.{is_count, is_divisor_number, are_types, is_key_list, is_key_map, is_dialect}
use Rattle.tinyjson_schema_assertions.specs.Operands.{is_pattern_text, has_patterns}
use Rattle.tinyjson_schema.specs.Circles.{leads}

-- Whether a keyword's value has the form. The flags are given: it is a schema, a list of schemas, an object of
-- schemas, a reference that leads to a schema and in no circle, a name of its own; and the keyword is in the root
-- schema.
abbrev pub has_form : Form → Tree → Bool → Bool → Bool → Bool → Bool → Bool → Bool
has_form form.Anything w one list entries leads own whole = true
has_form form.Text w one list entries leads own whole = is_string w
has_form form.Truth w one list entries leads own whole = is_boolean w
has_form form.List w one list entries leads own whole = is_array w
has_form form.Types w one list entries leads own whole = are_types w
has_form form.Number w one list entries leads own whole = is_number w
has_form form.Divisor w one list entries leads own whole = is_divisor_number w
has_form form.Count w one list entries leads own whole = is_count w
has_form form.Keys w one list entries leads own whole = is_key_list w
has_form form.KeyLists w one list entries leads own whole = is_key_map w
has_form form.Pattern w one list entries leads own whole = is_pattern_text w
has_form form.Dialect w one list entries leads own whole = is_dialect w
has_form form.Schema w one list entries leads own whole = one
has_form form.Schemas w one list entries leads own whole = list
has_form form.SchemaMap w one list entries leads own whole = entries
has_form form.PatternMap w one list entries leads own whole = has_patterns w && entries
has_form form.Base w one list entries leads own whole = whole && is_string w
has_form form.Reference w one list entries leads own whole = leads
has_form form.Anchor w one list entries leads own whole = own

abbrev mutual
  -- the schema, with its subschemas, can be applied in the root schema; or it is the root schema itself
  pub is_schema : Tree → Bool → Tree → Bool
  is_schema root whole (boolean accepts) = true
  is_schema root whole (object ms) = keywords_fit root whole ms
  is_schema root whole _ = false

  pub keywords_fit : Tree → Bool → Members → Bool
  keywords_fit root whole no_members = true
  keywords_fit root whole (member k w ms) = has_form (form_at (encode_utf8_all k)) w (is_schema root false w) (is_schema_list root w)
      (is_schema_map root w) (leads root w) (is_own_name root w) whole && keywords_fit root whole ms

  pub is_schema_list : Tree → Tree → Bool
  is_schema_list root (array ts) = is_some_item ts && are_schemas root ts
  is_schema_list root _ = false

  pub is_schema_map : Tree → Tree → Bool
  is_schema_map root (object ms) = have_schemas root ms
  is_schema_map root _ = false

  pub are_schemas : Tree → Items → Bool
  are_schemas root no_items = true
  are_schemas root (item t ts) = is_schema root false t && are_schemas root ts

  pub have_schemas : Tree → Members → Bool
  have_schemas root no_members = true
  have_schemas root (member k t ms) = is_schema root false t && have_schemas root ms

abbrev pub fits : Tree → Bool → Form → Tree → Bool
fits root whole f w =
    has_form f w (is_schema root false w) (is_schema_list root w) (is_schema_map root w) (leads root w) (is_own_name root w) whole
