-- No array of a value is too long: a vector has less than 2^63 items.
use Rattle.std.proofs.Common.{◌≡◌, ℕ, suc, List, [], ◌∷◌, String, Global, map, length, refl, sym, ap, subst, arith}
use Rattle.std.specs.declared.cmp.Ordering.{Ordering}
use Rattle.std.specs.declared.cmp.Ordering.TheVariants.{Less, Equal, Greater}
use Rattle.tinyjson.specs.Index.{item_count}
use Rattle.tinyjson.specs.View.{text, view, view_step, members_view}
use Rattle.tinyjson.specs.declared.value.JsonValue.{JsonValue, roll-JsonValue, map-JsonValue, fold-roll-JsonValue, ind-JsonValue}
use Rattle.tinyjson.specs.declared.value.JsonValue.TheOpen.{JsonValue-F}
use Rattle.tinyjson_grammar.specs.Tree.{Tree, items_of, Members, no_members, member, put, put_at, key_cmp}
use Rattle.tinyjson_schema_laws.specs.Short.{IsShort, AreShort, HaveShort}

-- ---- items and members

put_short : (k : List ℕ) (v : Tree) (ms : Members) → IsShort v → HaveShort ms → HaveShort (put k v ms)
put_short k v no_members h g = (h, tt)
put_short k v (member l u ms) h g = by (key_cmp k l) (put_short k v ms h g.1)
  where
    by : (o : Ordering) → HaveShort (put k v ms) → HaveShort (put_at o k v l u ms (put k v ms))
    by Less m = (h, g)
    by Equal m = (h, g.1)
    by Greater m = (g.0, m)

-- ---- each layer of a value

abbrev Seen : JsonValue → Type 0
Seen v = IsShort (view v)

abbrev Short : Type 0
Short = (v : JsonValue) × Seen v

items_short : (ts : List Short) → AreShort (items_of (map view (map (λ t. t.0) ts)))
items_short [] = tt
items_short (t ∷ ts) = (t.1, items_short ts)

items_counted : (ts : List Short) → item_count (items_of (map view (map (λ t. t.0) ts))) ≡ length ts
items_counted [] = refl
items_counted (t ∷ ts) = ap suc (items_counted ts)

members_short : (es : List (String Global × Short)) → HaveShort (members_view (map (λ (e : String Global × Short). (e.0, e.1.0)) es))
members_short [] = tt
members_short (e ∷ es) = put_short (text e.0) (view e.1.0) _ e.1.1 (members_short es)

abbrev held : JsonValue-F Short → JsonValue-F JsonValue
held = map-JsonValue Short JsonValue (λ t. t.0)

layer_short : (y : JsonValue-F Short) → IsShort (view_step (map-JsonValue JsonValue Tree view (held y)))
layer_short (JsonValue-F.Number n) = tt
layer_short (JsonValue-F.Boolean b) = tt
layer_short (JsonValue-F.String s) = tt
layer_short JsonValue-F.Null = tt
layer_short (JsonValue-F.Array v) = (omega (arith, items_counted v.items, v.ok, v.small), items_short v.items)
layer_short (JsonValue-F.Object m) = members_short m.entries

-- each array of a value has at most 2^64 items
pub view_IsShort : (v : JsonValue) → IsShort (view v)
view_IsShort = ind-JsonValue Seen (λ x y e. subst (λ z. Seen (roll-JsonValue z)) e
    (subst IsShort (sym (fold-roll-JsonValue Tree view_step (held y))) (layer_short y)))
