-- The keywords that constrain a value itself, not its parts (JSON Schema 2020-12, Validation). If the keyword's own
-- value has a form that the standard does not allow, it accepts every value. There are three exceptions: a `type`
-- of another form, or without the name of a type, accepts none; no value is in an `enum` that is no array; a string
-- that is no pattern matches no text.
use Rattle.std.specs.Prelude.{◌≡◌, ℕ, suc, pos, Bool, true, false, not, ◌&&◌, ◌||◌, List, [], ◌∷◌, Option, Some, None, is_some, int_le}
use Rattle.std.specs.Prelude.{codes, length, encode_utf8_all}
use Rattle.std.specs.Option.{option_map_or}
use Rattle.std.specs.Str.{bytes_eq}
use Rattle.text_iregexp.specs.PatternDeciding.{is_found}
use Rattle.text_formats.specs.Format as format
use Rattle.tinyjson.specs.Equality.{tree_eq}
use Rattle.tinyjson.specs.Index.{tree_at_key, item_count}
use Rattle.tinyjson.specs.Kind.{kind_of, kind_name}
use Rattle.tinyjson.specs.Number.{Decimal, integer_decimal}
use Rattle.tinyjson.specs.Tree.{Tree, boolean, number, string, array, object, Items, no_items, item, Members, no_members, member, find}
pub use Rattle.tinyjson_schema_assertions.specs.Distinct.{is_among}
use Rattle.tinyjson_schema_assertions.specs.Distinct.{are_distinct}
use Rattle.tinyjson_number.specs.Multiples.{is_divisor, is_multiple}
use Rattle.tinyjson_number.specs.Order.{is_at_most}
use Rattle.tinyjson_schema_keywords.specs.Names.{name}
use Rattle.tinyjson_schema_keywords.specs.declared.keyword.Keyword.{Keyword}
use Rattle.tinyjson_schema_keywords.specs.declared.keyword.Keyword.TheVariants as kw

-- a number without a fraction: its digits do not end in 0, so its power decides
abbrev pub is_whole : Tree → Bool
is_whole (number d) = int_le (pos 0) d.power
is_whole _ = false

-- the name of the value's type, or `integer`
abbrev pub is_type : Tree → Tree → Bool
is_type (string name) t = bytes_eq name (kind_name (kind_of t)) || (bytes_eq name (codes "integer") && is_whole t)
is_type _ t = false

abbrev pub has_some_type : Items → Tree → Bool
has_some_type no_items t = false
has_some_type (item name names) t = is_type name t || has_some_type names t

abbrev pub has_type : Tree → Tree → Bool
has_type (array names) t = has_some_type names t
has_type name t = is_type name t

abbrev pub is_in : Tree → Tree → Bool
is_in (array us) t = is_among us t
is_in _ t = false

-- a number of characters, items or members, as a decimal
abbrev pub count : ℕ → Decimal
count n = integer_decimal (pos n)

abbrev pub member_count : Members → ℕ
member_count no_members = 0
member_count (member k t ms) = suc (member_count ms)

-- the value has each of the keys
abbrev pub is_present : Tree → Members → Bool
is_present (string key) ms = is_some (find key ms)
is_present _ ms = true

abbrev pub are_present : Items → Members → Bool
are_present no_items ms = true
are_present (item key keys) ms = is_present key ms && are_present keys ms

abbrev pub has_keys : Tree → Members → Bool
has_keys (array keys) ms = are_present keys ms
has_keys _ ms = true

-- if the value has the key, it has those that the key requires
abbrev pub has_dependents_of : List ℕ → Tree → Members → Bool
has_dependents_of k keys ms = not (is_some (find k ms)) || has_keys keys ms

abbrev pub has_dependents : Members → Members → Bool
has_dependents no_members ms = true
has_dependents (member k keys more) ms = has_dependents_of k keys ms && has_dependents more ms

-- the first number is at most the second; true if one is no number
abbrev pub are_ordered : Tree → Tree → Bool
are_ordered (number d) (number e) = is_at_most d e
are_ordered _ _ = true

-- the first number is less than the second; true if one is no number
abbrev pub are_apart : Tree → Tree → Bool
are_apart (number d) (number e) = not (is_at_most e d)
are_apart _ _ = true

-- the number is a multiple of the divisor; true if one is no number, or the divisor is not allowed
abbrev pub are_multiple : Tree → Tree → Bool
are_multiple (number d) (number e) = not (is_divisor e) || is_multiple d e
are_multiple _ _ = true

-- what is counted: the characters of a string, the items of an array, the members of an object
abbrev pub length_of : Tree → Option ℕ
length_of (string cs) = Some (length cs)
length_of _ = None

abbrev pub items_count_of : Tree → Option ℕ
items_count_of (array ts) = Some (item_count ts)
items_count_of _ = None

abbrev pub members_count_of : Tree → Option ℕ
members_count_of (object ms) = Some (member_count ms)
members_count_of _ = None

-- the count is at most the limit, or at least the limit; true without a count
abbrev pub is_count_at_most : Option ℕ → Tree → Bool
is_count_at_most (Some n) w = are_ordered (number (count n)) w
is_count_at_most None w = true

abbrev pub is_count_at_least : Option ℕ → Tree → Bool
is_count_at_least (Some n) w = are_ordered w (number (count n))
is_count_at_least None w = true

-- the pattern, the first tree, matches somewhere in the string
abbrev pub has_pattern : Tree → Tree → Bool
has_pattern (string ps) (string cs) = is_found ps cs
has_pattern _ t = true

-- the string has the format with that name (7.3); true for other values, and if the name is not known
abbrev pub has_format : Tree → Tree → Bool
has_format (string name) (string cs) =
    option_map_or (λ f. format.accepts f (encode_utf8_all cs)) (format.format_named (encode_utf8_all name)) true
has_format _ t = true

-- no two items of an array are equal, if `uniqueItems` is true
abbrev pub are_unique : Tree → Tree → Bool
are_unique (boolean asked) (array ts) = not asked || are_distinct ts
are_unique _ t = true

abbrev pub has_required : Tree → Tree → Bool
has_required w (object ms) = has_keys w ms
has_required _ t = true

abbrev pub has_dependent_required : Tree → Tree → Bool
has_dependent_required (object more) (object ms) = has_dependents more ms
has_dependent_required _ t = true

-- the value t meets the keyword, whose own value is w
abbrev pub accepts : Keyword → Tree → Tree → Bool
accepts kw.Type w t = has_type w t  -- 6.1.1
accepts kw.Enum w t = is_in w t  -- 6.1.2
accepts kw.Const w t = tree_eq t w  -- 6.1.3
accepts kw.MultipleOf w t = are_multiple t w  -- 6.2.1
accepts kw.Maximum w t = are_ordered t w  -- 6.2.2
accepts kw.ExclusiveMaximum w t = are_apart t w  -- 6.2.3
accepts kw.Minimum w t = are_ordered w t  -- 6.2.4
accepts kw.ExclusiveMinimum w t = are_apart w t  -- 6.2.5
accepts kw.MaxLength w t = is_count_at_most (length_of t) w  -- 6.3.1
accepts kw.MinLength w t = is_count_at_least (length_of t) w  -- 6.3.2
accepts kw.Pattern w t = has_pattern w t  -- 6.3.3
accepts kw.MaxItems w t = is_count_at_most (items_count_of t) w  -- 6.4.1
accepts kw.MinItems w t = is_count_at_least (items_count_of t) w  -- 6.4.2
accepts kw.UniqueItems w t = are_unique w t  -- 6.4.3
accepts kw.MaxProperties w t = is_count_at_most (members_count_of t) w  -- 6.5.1
accepts kw.MinProperties w t = is_count_at_least (members_count_of t) w  -- 6.5.2
accepts kw.Required w t = has_required w t  -- 6.5.3
accepts kw.DependentRequired w t = has_dependent_required w t  -- 6.5.4
accepts kw.Format w t = has_format w t  -- 7.2.2
accepts _ w t = true

-- The value t meets the keyword of the schema s, or s has none.
abbrev pub meets : Keyword → Tree → Tree → Bool
meets k s t = option_map_or (λ w. accepts k w t) (tree_at_key s (name k)) true

abbrev pub constraints : List Keyword
constraints = kw.Type ∷ kw.Enum ∷ kw.Const ∷ kw.MultipleOf ∷ kw.Maximum ∷ kw.ExclusiveMaximum ∷ kw.Minimum
    ∷ kw.ExclusiveMinimum ∷ kw.MaxLength ∷ kw.MinLength ∷ kw.Pattern ∷ kw.MaxItems ∷ kw.MinItems ∷ kw.UniqueItems
    ∷ kw.MaxProperties ∷ kw.MinProperties ∷ kw.Required ∷ kw.DependentRequired ∷ []

-- the assertions, `format` among them if the flag is true
abbrev pub assertions : Bool → List Keyword
assertions false = constraints
assertions true = kw.Format ∷ constraints

abbrev pub meets_all : List Keyword → Tree → Tree → Bool
meets_all [] s t = true
meets_all (k ∷ ks) s t = meets k s t && meets_all ks s t

-- No keyword, and the value meets all of these; or one that the value violates.
abbrev pub IsUnmetAmong : List Keyword → Tree → Tree → Option Keyword → Type 0
IsUnmetAmong ks s t None = meets_all ks s t ≡ true
IsUnmetAmong ks s t (Some k) = (meets k s t ≡ false) × (meets_all ks s t ≡ false)

abbrev pub IsUnmet : Bool → Tree → Tree → Option Keyword → Type 0
IsUnmet formats = IsUnmetAmong (assertions formats)
