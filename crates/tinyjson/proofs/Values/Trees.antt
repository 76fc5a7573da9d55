-- Every value is seen as a tree of characters and canonical decimals, with members in order.
use Rattle.std.proofs.Common.{List, [], ◌∷◌, String, Global, string_bytes, map, IsTrue, sym, subst}
use Rattle.std.proofs.lemmas.Str.{scalars-chars, IsUtf8-string_bytes}
use Rattle.tinyjson_number.specs.Numeral.{power_width}
use Rattle.std.specs.Str.{all_scalars}
use Rattle.tinyjson_grammar.specs.Tree.{Tree, items_of}
use Rattle.tinyjson_grammar.specs.Soundness.{IsTree, AreItemsAt, AreMembersAt}
use Rattle.tinyjson_grammar.proofs.Callers.{are_put}
use Rattle.tinyjson.specs.View.{text, view, view_step, members_view, seen_entries}
use Rattle.tinyjson.proofs.Values.Entries.{members_of_sorted}
use Rattle.tinyjson.specs.declared.value.JsonValue.{JsonValue, roll-JsonValue, map-JsonValue, fold-roll-JsonValue, ind-JsonValue}
use Rattle.tinyjson.specs.declared.value.JsonValue.TheOpen.{JsonValue-F}

-- the characters of a text are scalar values
pub text_scalars : (s : String Global) → IsTrue (all_scalars (text s))
text_scalars s = scalars-chars (string_bytes s) (IsUtf8-string_bytes s)

abbrev Seen : JsonValue → Type 0
Seen v = IsTree (view v)

abbrev Sound : Type 0
Sound = (v : JsonValue) × Seen v

items_sound : (ts : List Sound) → AreItemsAt power_width (items_of (map view (map (λ t. t.0) ts)))
items_sound [] = tt
items_sound (t ∷ ts) = (t.1, items_sound ts)

members_sound : (es : List (String Global × Sound)) → AreMembersAt power_width
    (members_view (map (λ (e : String Global × Sound). (e.0, e.1.0)) es))
members_sound [] = tt
members_sound (e ∷ es) = are_put power_width (text e.0) (view e.1.0) _ (text_scalars e.0) e.1.1 (members_sound es)

abbrev held : JsonValue-F Sound → JsonValue-F JsonValue
held = map-JsonValue Sound JsonValue (λ t. t.0)

layer_sound : (y : JsonValue-F Sound) → IsTree (view_step (map-JsonValue JsonValue Tree view (held y)))
layer_sound (JsonValue-F.Number n) = n.canonical
layer_sound (JsonValue-F.Boolean b) = tt
layer_sound (JsonValue-F.String s) = text_scalars s
layer_sound JsonValue-F.Null = tt
layer_sound (JsonValue-F.Array v) = items_sound v.items
layer_sound (JsonValue-F.Object m) = (
  members_sound m.entries,
  members_of_sorted (seen_entries (map (λ (e : String Global × Sound). (e.0, e.1.0)) m.entries)),
)

-- the tree of every value is sound
pub view_IsTree : (v : JsonValue) → IsTree (view v)
view_IsTree = ind-JsonValue Seen (λ x y e. subst (λ z. Seen (roll-JsonValue z)) e
    (subst IsTree (sym (fold-roll-JsonValue Tree view_step (held y))) (layer_sound y)))
