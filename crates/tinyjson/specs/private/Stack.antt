-- What the parser's stack represents, in the words of the machine. For private contracts.
use Rattle.std.specs.Prelude.{◌≡◌, ℕ, suc, ◌+◌, ◌≤◌, List, [], ◌∷◌, ◌++◌, map, take, drop, reverse, length, String, ⊤}
use Rattle.std.specs.declared.alloc.Global.{Global}
use Rattle.tinyjson_grammar.specs.Tree.{Tree, Members, no_members, put}
use Rattle.tinyjson.specs.Access.{JsonMap}
use Rattle.tinyjson.specs.View.{view, text, members_view}
use Rattle.tinyjson_grammar.specs.Machine.{Frame, in_array, at_key, at_value}
use Rattle.tinyjson.specs.declared.parser.stack.Place.{Place}
use Rattle.tinyjson.specs.declared.parser.stack.Stack.{Stack}
use Rattle.tinyjson.specs.declared.value.JsonValue.{JsonValue}

-- the values at their keys, after the members that were there: of equal keys the last stays
abbrev pub gather : Members → List (String Global) → List JsonValue → Members
gather ms [] vs = ms
gather ms (k ∷ ks) [] = ms
gather ms (k ∷ ks) (v ∷ vs) = gather (put (text k) (view v) ms) ks vs

-- the key that has no value yet
abbrev pub waiting : List (String Global) → List JsonValue → List ℕ
waiting [] vs = []
waiting (k ∷ ks) [] = text k
waiting (k ∷ ks) (v ∷ vs) = waiting ks vs

-- the maps of the open objects, the innermost first: what the innermost has, and those of the others
abbrev pub own_members : List JsonMap → Members
own_members [] = no_members
own_members (m ∷ ms) = members_view m.entries

abbrev pub other_maps : List JsonMap → List JsonMap
other_maps [] = []
other_maps (m ∷ ms) = ms

-- Open containers as frames, the innermost first: each has the values and keys from its place on, and an object
-- the members of its map before them. An object that awaits a key has a key for each of its values, and one that
-- awaits a value has one more.
abbrev pub Holds : List Place → List Frame → List JsonValue → List (String Global) → List JsonMap → Type 0
Holds [] [] vs ks ms = ⊤
Holds (o ∷ os) (in_array ts ∷ fs) vs ks ms =
    (o.values ≤ length vs) × (ts ≡ map view (drop o.values vs)) × Holds os fs (take o.values vs) ks ms
Holds (o ∷ os) (at_key t ∷ fs) vs ks ms =
    (o.values ≤ length vs) × (o.keys ≤ length ks) × (length ks + o.values ≡ length vs + o.keys)
    × (t ≡ gather (own_members ms) (drop o.keys ks) (drop o.values vs))
    × Holds os fs (take o.values vs) (take o.keys ks) (other_maps ms)
Holds (o ∷ os) (at_value t k ∷ fs) vs ks ms =
    (o.values ≤ length vs) × (o.keys ≤ length ks) × (length ks + o.values ≡ suc (length vs + o.keys))
    × (t ≡ gather (own_members ms) (drop o.keys ks) (drop o.values vs)) × (k ≡ waiting (drop o.keys ks) (drop o.values vs))
    × Holds os fs (take o.values vs) (take o.keys ks) (other_maps ms)
Holds os fs vs ks ms = ⊥

abbrev pub maps_of : Stack → List JsonMap
maps_of s = reverse s.maps.items

abbrev pub holds : Stack → List Frame → Type 0
holds s fs = Holds (reverse s.places.items) fs s.values.items s.keys.items (maps_of s)

-- the last value is complete
abbrev pub is : Stack → Tree → Type 0
is s t = (front : List JsonValue) × (v : JsonValue) × (s.values.items ≡ front ++ v ∷ []) × (view v ≡ t)
