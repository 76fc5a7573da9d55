-- References that would lead elsewhere in the words of 2020-12. Of the places of schemas that become others, `items` is the only
-- one that can become that of another schema: beside an array there, that of `additionalItems`.
use Rattle.std.specs.Prelude.{ℕ, Bool, true, false, ◌||◌, List, [], ◌∷◌, Option, Some, None, cond, codes, encode_utf8_all}
use Rattle.std.specs.Option.{option_map_or}
use Rattle.std.specs.Str.{bytes_eq, chars, is_utf8}
use Rattle.tinyjson.specs.Access.{is_array}
use Rattle.tinyjson.specs.Tree.{Tree, null, string}
use Rattle.text_uri.specs.Resolving.{is_empty, without_fragment, fragment_of}
use Rattle.tinyjson_pointer.specs.Text.{pointer_tokens}
use Rattle.tinyjson_pointer.specs.Walk.{part_at}
use Rattle.tinyjson_schema_keywords.specs.References.{percent_decoded}

-- A schema is neither an array nor missing.
abbrev pub is_lost_part : Option Tree → Bool
is_lost_part None = true
is_lost_part (Some t) = is_array t

abbrev pub goes_through_items : List (List ℕ) → Bool
goes_through_items [] = false
goes_through_items (k ∷ ks) = bytes_eq (encode_utf8_all k) (codes "items") || goes_through_items ks

-- In the resource r: the pointer in the resource with the URI u, or in r itself, may lead to an array at `items`.
abbrev pub is_lost_from : Tree → List ℕ → List (List ℕ) → Bool
is_lost_from r u ks = cond (is_empty u) (is_lost_part (part_at r ks)) (goes_through_items ks)

abbrev pub is_lost_pointer : Tree → List ℕ → List ℕ → Bool
is_lost_pointer r u cs = option_map_or (is_lost_from r u) (pointer_tokens cs) false

-- The name that marks a resource (Recursion) is none of the schema's own.
abbrev pub is_lost_word : Tree → List ℕ → List ℕ → Bool
is_lost_word r u ds = cond (bytes_eq ds (codes "_recursiveAnchor")) true (is_lost_pointer r u (chars ds))

abbrev pub is_lost_text : Tree → List ℕ → List ℕ → Bool
is_lost_text r u ds = cond (is_utf8 ds) (is_lost_word r u ds) false

abbrev pub is_lost_by : Tree → List ℕ → List ℕ → Bool
is_lost_by r u f = option_map_or (is_lost_text r u) (percent_decoded f) false

abbrev pub is_lost : Tree → List ℕ → Bool
is_lost r bs = option_map_or (is_lost_by r (without_fragment bs)) (fragment_of bs) false

abbrev pub reference_by : Tree → List ℕ → Tree → Tree
reference_by r bs w = cond (is_lost r bs) null w

abbrev pub reference_in_words : Tree → Tree → Tree
reference_in_words r (string cs) = reference_by r (encode_utf8_all cs) (string cs)
reference_in_words r w = w
