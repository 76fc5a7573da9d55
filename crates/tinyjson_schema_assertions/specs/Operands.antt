-- The forms that the values of keywords need, except for subschemas.
use Rattle.std.specs.Prelude.{ℕ, pos, Bool, true, false, not, ◌&&◌, ◌||◌, List, int_le, codes, encode_utf8_all}
use Rattle.std.specs.Str.{bytes_eq}
use Rattle.text_iregexp.specs.PatternDeciding.{is_pattern}
use Rattle.tinyjson.specs.Access.{is_string}
use Rattle.tinyjson.specs.Tree.{Tree, number, string, array, object, Items, no_items, item, Members, no_members, member}
use Rattle.tinyjson_schema_assertions.specs.Distinct.{are_distinct}
use Rattle.tinyjson_number.specs.Multiples.{is_divisor}
use Rattle.tinyjson_schema_keywords.specs.Forms.{is_some_item}
use Rattle.tinyjson_schema_assertions.specs.Assertions.{is_among}

abbrev pub is_count : Tree → Bool
is_count (number d) = not d.negative && int_le (pos 0) d.power
is_count _ = false

abbrev pub is_divisor_number : Tree → Bool
is_divisor_number (number e) = is_divisor e
is_divisor_number _ = false

abbrev pub is_name_of_type : List ℕ → Bool
is_name_of_type bs = bytes_eq bs (codes "null") || (bytes_eq bs (codes "boolean") || (bytes_eq bs (codes "object")
    || (bytes_eq bs (codes "array") || (bytes_eq bs (codes "number") || (bytes_eq bs (codes "string") || bytes_eq bs (codes "integer"))))))

abbrev pub is_type_name : Tree → Bool
is_type_name (string cs) = is_name_of_type (encode_utf8_all cs)
is_type_name _ = false

abbrev pub are_type_names : Items → Bool
are_type_names no_items = true
are_type_names (item t ts) = is_type_name t && (not (is_among ts t) && are_type_names ts)

abbrev pub is_type_list : Items → Bool
is_type_list ts = is_some_item ts && are_type_names ts

abbrev pub are_types : Tree → Bool
are_types (array ts) = is_type_list ts
are_types t = is_type_name t

abbrev pub are_strings : Items → Bool
are_strings no_items = true
are_strings (item t ts) = is_string t && are_strings ts

-- a list of different strings
abbrev pub is_key_list : Tree → Bool
is_key_list (array ts) = are_strings ts && are_distinct ts
is_key_list _ = false

abbrev pub have_key_lists : Members → Bool
have_key_lists no_members = true
have_key_lists (member k t ms) = is_key_list t && have_key_lists ms

abbrev pub is_key_map : Tree → Bool
is_key_map (object ms) = have_key_lists ms
is_key_map _ = false

-- a string that is a pattern (Core, 6.4)
abbrev pub is_pattern_text : Tree → Bool
is_pattern_text (string ps) = is_pattern ps
is_pattern_text _ = false

-- each key is a pattern
abbrev pub are_patterns : Members → Bool
are_patterns no_members = true
are_patterns (member k t ms) = is_pattern k && are_patterns ms

abbrev pub has_patterns : Tree → Bool
has_patterns (object ms) = are_patterns ms
has_patterns _ = false

abbrev pub is_dialect : Tree → Bool
is_dialect (string cs) = bytes_eq (encode_utf8_all cs) (codes "https://json-schema.org/draft/2020-12/schema")
is_dialect _ = false
