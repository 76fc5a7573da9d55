-- The subschemas of a schema, by keyword.
use Rattle.std.specs.Prelude.{Bool}
use Rattle.std.specs.Prelude.{Option, cond}
use Rattle.std.specs.Option.{option_map_or}
use Rattle.tinyjson.specs.Index.{tree_at_key}
use Rattle.tinyjson.specs.Tree.{Tree, array, object, Items, no_items, Members, no_members}
use Rattle.tinyjson_schema_keywords.specs.Names.{name}
use Rattle.tinyjson_schema_keywords.specs.declared.keyword.Keyword.{Keyword}
use Rattle.tinyjson_schema_keywords.specs.declared.keyword.Keyword.TheVariants as kw

abbrev pub schema_at : Tree → Keyword → Option Tree
schema_at s k = tree_at_key s (name k)

abbrev pub items_in : Tree → Items
items_in (array ts) = ts
items_in _ = no_items

abbrev pub schemas_at : Tree → Keyword → Items
schemas_at s k = option_map_or items_in (schema_at s k) no_items

-- the members of an object; none for another value
abbrev pub members_in : Tree → Members
members_in (object ms) = ms
members_in _ = no_members

abbrev pub schema_map_at : Tree → Keyword → Members
schema_map_at s k = option_map_or members_in (schema_at s k) no_members

-- the keyword that `if` chooses
abbrev pub branch : Bool → Keyword
branch accepted = cond accepted kw.Then kw.Else
