-- One part of a value is replaced, and the same part of its tree.
use Rattle.std.proofs.Common.{◌≡◌, ℕ, ◌≤◌, length, bytes_eq, List, ◌∷◌, Option, Some, None, IsSome, Result, Ok, Err, option_map, String}
use Rattle.std.proofs.Common.{string_bytes, Vec, Global, refl, sym, ap, ◌∙◌, subst}
use Rattle.std.proofs.lemmas.Str.{IsUtf8-string_bytes}
use Rattle.std.specs.HashMap.{get_by_text, UpdatesBy}
use Rattle.std.specs.Option.{option_map_or}
use Rattle.std.specs.Prelude.{slice_get, option_and_then}
use Rattle.std.specs.String.{string_eq}
use Rattle.std.specs.Vec.{with_item}
use Rattle.tinyjson.proofs.Callers.{object_tree, array_tree, find_get, nth_items_view, items_view_set, members_view_write, put_back}
use Rattle.tinyjson.proofs.Callers.{with_nth_back, view_Object, view_Array}
use Rattle.tinyjson.specs.Access.{JsonMap, object_part, array_part}
use Rattle.tinyjson.specs.Soundness.{IsTree}
use Rattle.tinyjson.specs.Tree.{Tree, array, object, Items}
use Rattle.tinyjson.specs.View.{view, text, items_view}
use Rattle.tinyjson.specs.declared.value.JsonValue.{JsonValue}
use Rattle.tinyjson.specs.declared.value.JsonValue.TheVariants as is
use Rattle.tinyjson_pointer.proofs.Steps.{no_item}
use Rattle.tinyjson_pointer.specs.Index.{index_of}
use Rattle.tinyjson_pointer.specs.Walk.{step, item_of, with_item_of, with_step, with_part, part_at, Replaces}

item_back : (ts : Items) (o : Option ℕ) (u : Tree) → item_of ts o ≡ Some u → with_item_of ts o u ≡ ts
item_back ts None u h = refl
item_back ts (Some i) u h = with_nth_back ts i u h

-- putting a part where it stands changes nothing
pub step_back : (t : Tree) (k : List ℕ) (u : Tree) → IsTree t → step t k ≡ Some u → with_step t k u ≡ t
step_back (object ms) k u s h = ap object (put_back k u ms s.1 h)
step_back (array ts) k u s h = ap array (item_back ts (index_of k) u h)
step_back _ k u s h = refl

-- what a call on a part says of the whole
pub replaces_step : (t u u' t' : Tree) (k : List ℕ) (ks : List (List ℕ)) (part : JsonValue) (r : Result JsonValue JsonValue) → IsTree t
    → step t k ≡ Some u → Replaces u ks part r u' → t' ≡ with_step t k u' → Replaces t (k ∷ ks) part r t'
replaces_step t u u' t' k ks part (Ok old) s e rec is = (
  ap (option_and_then (λ x. part_at x ks)) e ∙ rec.0,
  is ∙ (ap (with_step t k) rec.1 ∙ sym (ap (λ o. option_map_or (λ p. with_step t k (with_part p ks (view part))) o t) e)),
)
replaces_step t u u' t' k ks part (Err given) s e rec is = (
  ap (option_and_then (λ x. part_at x ks)) e ∙ rec.0,
  rec.1,
  is ∙ (ap (with_step t k) rec.2 ∙ step_back t k u s e),
)

pub no_part : (t : Tree) (k : List ℕ) (ks : List (List ℕ)) → step t k ≡ None → part_at t (k ∷ ks) ≡ None
no_part t k ks e = ap (option_and_then (λ x. part_at x ks)) e

pub member_step : (v : JsonValue) (m : JsonMap) (key : String Global) (bs : List ℕ) (o : Option JsonValue) → bs ≡ string_bytes key
    → Some m ≡ object_part v → o ≡ get_by_text m bs
    → step (view v) (text key) ≡ option_map view o
member_step v m key bs o b h g =
    ap (λ t. step t (text key)) (object_tree v m (sym h))
    ∙ (find_get m (string_bytes key) (IsUtf8-string_bytes key) ∙ ap (option_map view) (ap (get_by_text m) (sym b) ∙ sym g))

pub member_replaced : (v : JsonValue) (m n : JsonMap) (key : String Global) (bs : List ℕ) (w : JsonValue) → bs ≡ string_bytes key
    → Some m ≡ object_part v → IsSome (get_by_text m bs)
    → UpdatesBy string_eq (λ k. bytes_eq bs (string_bytes k)) m n (Some w) → view (is.Object n) ≡ with_step (view v) (text key) (view w)
member_replaced v m n key bs w b h there upd =
    view_Object n
    ∙ (ap object (members_view_write m n (string_bytes key) w (IsUtf8-string_bytes key) (subst (λ x. IsSome (get_by_text m x)) b there)
    (subst (λ x. UpdatesBy string_eq (λ k. bytes_eq x (string_bytes k)) m n (Some w)) b upd))
    ∙ ap (λ t. with_step t (text key) (view w)) (sym (object_tree v m (sym h))))

pub item_step : (v : JsonValue) (l : Vec JsonValue Global) (k : List ℕ) (i : ℕ) (o : Option JsonValue) → Some l ≡ array_part v
    → index_of k ≡ Some i → slice_get l.items i ≡ o
    → step (view v) k ≡ option_map view o
item_step v l k i o h at g =
    ap (λ t. step t k) (array_tree v l (sym h)) ∙ (ap (item_of (items_view l.items)) at
    ∙ (nth_items_view l.items i ∙ ap (option_map view) g))

pub item_past : (v : JsonValue) (l : Vec JsonValue Global) (k : List ℕ) → Some l ≡ array_part v
    → ((i : ℕ) → index_of k ≡ Some i → length l.items ≤ i) → step (view v) k ≡ None
item_past v l k h past = ap (λ t. step t k) (array_tree v l (sym h)) ∙ sym (no_item l (index_of k) past)

pub item_replaced : (v : JsonValue) (l : Vec JsonValue Global) (k : List ℕ) (i : ℕ) (w : JsonValue) → Some l ≡ array_part v
    → index_of k ≡ Some i
    → view (is.Array (with_item l i w)) ≡ with_step (view v) k (view w)
item_replaced v l k i w h at =
    view_Array (with_item l i w)
    ∙ (ap array (items_view_set l.items i w ∙ ap (λ o. with_item_of (items_view l.items) o (view w)) (sym at))
    ∙ ap (λ t. with_step t k (view w)) (sym (array_tree v l (sym h))))
