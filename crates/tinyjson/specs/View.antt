-- The tree that a `JsonValue` is seen as.
use Rattle.std.specs.Prelude.{List, [], ◌∷◌, map, String}
pub use Rattle.tinyjson_grammar.specs.Characters.{text}
use Rattle.std.specs.Borrow.{Bor}
use Rattle.std.specs.declared.alloc.Global.{Global}
use Rattle.tinyjson_grammar.specs.Tree.{Tree, null, boolean, number, string, array, object}
use Rattle.tinyjson_grammar.specs.Tree.{Items, items_of, Members, no_members, member, put}
use Rattle.tinyjson.specs.declared.value.JsonValue.{JsonValue, fold-JsonValue}
use Rattle.tinyjson.specs.declared.value.JsonValue.TheOpen.{JsonValue-F}

-- each entry put at its key. Of two entries with one key the first counts; a map has no such two
abbrev pub members_of : List (String Global × Tree) → Members
members_of [] = no_members
members_of (e ∷ es) = put (text e.0) e.1 (members_of es)

-- one level, with each value inside already seen as its tree
abbrev pub view_step : JsonValue-F Tree → Tree
view_step JsonValue-F.Null = null
view_step (JsonValue-F.Boolean b) = boolean b
view_step (JsonValue-F.Number n) = number n.decimal
view_step (JsonValue-F.String s) = string (text s)
view_step (JsonValue-F.Array v) = array (items_of v.items)
view_step (JsonValue-F.Object m) = object (members_of m.entries)

abbrev pub view : JsonValue → Tree
view = fold-JsonValue Tree view_step

abbrev pub items_view : List JsonValue → Items
items_view vs = items_of (map view vs)

abbrev pub seen_entries : List (String Global × JsonValue) → List (String Global × Tree)
seen_entries es = map (λ e. (e.0, view e.1)) es

abbrev pub members_view : List (String Global × JsonValue) → Members
members_view es = members_of (seen_entries es)

-- the members that a list of references has, in its order
abbrev pub members_listed : List (Bor (String Global) × Bor JsonValue) → Members
members_listed [] = no_members
members_listed (e ∷ es) = member (text e.0.now) (view e.1.now) (members_listed es)
