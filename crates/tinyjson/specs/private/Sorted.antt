-- A map's members in a list of references. For private contracts.
use Rattle.std.specs.Prelude.{ℕ, List, [], ◌∷◌, String, string_bytes}
use Rattle.std.specs.Borrow.{Bor}
use Rattle.std.specs.Str.{chars}
use Rattle.std.specs.declared.alloc.Global.{Global}
use Rattle.tinyjson_grammar.specs.Tree.{Members, no_members, member}
use Rattle.tinyjson.specs.View.{view}
use Rattle.tinyjson.specs.declared.value.JsonValue.{JsonValue}

-- a member by its key's bytes: of a map's entry, and of pairs of references
abbrev pub bytes_pair : String Global × JsonValue → List ℕ × JsonValue
bytes_pair e = (string_bytes e.0, e.1)

abbrev pub now_pair : Bor (List ℕ) × Bor JsonValue → List ℕ × JsonValue
now_pair p = (p.0.now, p.1.now)

abbrev pub listed_pair : Bor (String Global) × Bor JsonValue → List ℕ × JsonValue
listed_pair p = (string_bytes p.0.now, p.1.now)

-- the members of the list, in its order
abbrev pub sorted_view : List (Bor (List ℕ) × Bor JsonValue) → Members
sorted_view [] = no_members
sorted_view (m ∷ ms) = member (chars m.0.now) (view m.1.now) (sorted_view ms)
