-- The schemas for the parts of a value.
use Rattle.std.specs.Prelude.{ℕ, Bool, true, false, ◌||◌, cond, List, Option, Some, None, option_and_then, codes}
use Rattle.std.specs.Option.{option_map_or}
use Rattle.text_iregexp.specs.PatternDeciding.{is_found}
use Rattle.tinyjson.specs.Index.{tree_at, tree_at_key}
use Rattle.tinyjson.specs.Tree.{Tree, array, object, Members, no_members, member}
use Rattle.tinyjson_pointer.specs.Index.{index_of}
use Rattle.tinyjson_schema_keywords.specs.Applied.{members_in}
use Rattle.tinyjson_schema_keywords.specs.declared.keyword.Keyword.{Keyword}
use Rattle.tinyjson_schema_keywords.specs.declared.keyword.Keyword.TheVariants as kw

-- the keyword has a schema for each part, not one for all
abbrev pub is_by_part : Keyword → Bool
is_by_part kw.Properties = true
is_by_part kw.PrefixItems = true
is_by_part _ = false

-- the schema of `properties` for a key (Core, 10.3.2.1)
abbrev pub property : Tree → List ℕ → Option Tree
property s k = option_and_then (λ p. tree_at_key p k) (tree_at_key s (codes "properties"))

-- one of the keys is a pattern that matches the text
abbrev pub some_found : Members → List ℕ → Bool
some_found no_members k = false
some_found (member p r rs) k = is_found p k || some_found rs k

-- a pattern of `patternProperties` matches the key (Core, 10.3.2.2)
abbrev pub is_patterned : Tree → List ℕ → Bool
is_patterned s k = some_found (option_map_or members_in (tree_at_key s (codes "patternProperties")) no_members) k

-- the schema of `additionalProperties` for a key that no pattern matches
abbrev pub additional : Tree → List ℕ → Option Tree
additional s k = cond (is_patterned s k) None (tree_at_key s (codes "additionalProperties"))

-- the schema of `prefixItems` for an index (Core, 10.3.1.1)
abbrev pub prefix_item : Tree → ℕ → Option Tree
prefix_item s i = option_and_then (λ p. tree_at p i) (tree_at_key s (codes "prefixItems"))

abbrev pub or_else : Option Tree → Option Tree → Option Tree
or_else (Some r) o = Some r
or_else None o = o

-- `additionalProperties` is for what `properties` and `patternProperties` leave (Core, 10.3.2.3)
abbrev pub member_schema : Tree → List ℕ → Option Tree
member_schema s k = or_else (property s k) (additional s k)

-- `items` is for what `prefixItems` leaves (Core, 10.3.1.2)
abbrev pub item_schema : Tree → ℕ → Option Tree
item_schema s i = or_else (prefix_item s i) (tree_at_key s (codes "items"))

-- the schema for the part that the token names
abbrev pub part_schema : Tree → Tree → List ℕ → Option Tree
part_schema s (object ms) k = member_schema s k
part_schema s (array ts) k = option_and_then (item_schema s) (index_of k)
part_schema s _ k = None
