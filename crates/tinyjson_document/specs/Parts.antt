-- What a node returns of its tree.
use Rattle.std.specs.Prelude.{ℕ, suc, Bool, List, Option, Some, None}
use Rattle.tinyjson.specs.Index.{item_count}
use Rattle.tinyjson_number.specs.Decimal.{Decimal}
use Rattle.tinyjson_grammar.specs.Tree.{Tree, boolean, number, string, array, object}
use Rattle.tinyjson_grammar.specs.Tree.{Items, no_items, Members, no_members, member}

abbrev pub boolean_in : Tree → Option Bool
boolean_in (boolean b) = Some b
boolean_in _ = None

abbrev pub number_in : Tree → Option Decimal
number_in (number d) = Some d
number_in _ = None

abbrev pub string_in : Tree → Option (List ℕ)
string_in (string cs) = Some cs
string_in _ = None

abbrev pub items_in : Tree → Items
items_in (array ts) = ts
items_in _ = no_items

abbrev pub members_in : Tree → Members
members_in (object ms) = ms
members_in _ = no_members

abbrev pub member_count : Members → ℕ
member_count no_members = 0
member_count (member k t ms) = suc (member_count ms)

-- the number of items or members of a tree
abbrev pub size : Tree → ℕ
size (array ts) = item_count ts
size (object ms) = member_count ms
size _ = 0
