-- The places in a value, and those in its tree.
pub mod Lending
pub mod Places
pub mod Steps
use Rattle.std.proofs.Common.{◌≡◌, ℕ, zero, suc, List, [], ◌∷◌, Option, Some, None, option_map, bytes_eq, cond, string_bytes, String, Vec}
use Rattle.std.proofs.Common.{Global, sym, ap, ◌∙◌, refl, subst}
use Rattle.std.proofs.lemmas.Option.{slice_get_within}
use Rattle.std.specs.HashMap.{get_by_text}
use Rattle.std.specs.Map.{lookup}
use Rattle.std.specs.Prelude.{◌<◌, IsSome, length, slice_get, slice_set, option_and_then}
use Rattle.std.specs.Str.{IsUtf8, chars}
use Rattle.std.specs.String.{string_eq}
use Rattle.std.specs.Vec.{with_item}
use Rattle.tinyjson.proofs.Values.View.{find_members_view, members_view_writes, view_Array, view_Object}
use Rattle.tinyjson.specs.Access.{JsonMap, array_part, object_part}
use Rattle.tinyjson.specs.Access.Laws.{put_of_array, put_of_object}
use Rattle.tinyjson.specs.Index.{item_at, member_at, nth, tree_at, tree_at_key, with_nth, with_tree_at, with_tree_at_key, IsItemAt}
use Rattle.tinyjson.specs.Index.{IsMemberAt}
use Rattle.tinyjson_grammar.specs.Tree.{array, object, item}
use Rattle.tinyjson.specs.View.{view, items_view}
use Rattle.tinyjson.specs.declared.value.JsonValue as made
use Rattle.tinyjson.specs.declared.value.JsonValue.{JsonValue}

nth_item : (vs : List JsonValue) (i : ℕ) (x : JsonValue) → slice_get vs i ≡ Some x → nth (items_view vs) i ≡ Some (view x)
nth_item [] i x h = cc
nth_item (v ∷ vs) zero x h = cc
nth_item (v ∷ vs) (suc i) x h = nth_item vs i x h

within : {A : Type 0} (xs : List A) (i : ℕ) (o : Option A) → slice_get xs i ≡ o → IsSome o → i < length xs
within xs i (Some x) e h = slice_get_within xs i x e
within xs i None e h = cc

-- an index that has an item is within the array
pub within_array : (v : JsonValue) (i : ℕ) (list : Vec JsonValue Global) → IsSome (item_at v i) → array_part v ≡ Some list
    → i < length list.items
within_array v i list h held = within list.items i (slice_get list.items i) refl
    (subst (λ o. IsSome (option_and_then (λ (m : Vec JsonValue Global). slice_get m.items i) o)) held h)

-- an item of the array that a value holds
pub is_item_at : (v : JsonValue) (i : ℕ) (list : Vec JsonValue Global) (x : JsonValue) → array_part v ≡ Some list
    → slice_get list.items i ≡ Some x → IsItemAt v i x
is_item_at v i list x held at = (
  ap (λ o. option_and_then (λ (m : Vec JsonValue Global). slice_get m.items i) o) held ∙ at,
  ap (λ t. tree_at t i) (ap view (sym (put_of_array v list held)) ∙ view_Array list) ∙ nth_item list.items i x at,
)

-- the items after one was set
pub items_view_set : (vs : List JsonValue) (i : ℕ) (w : JsonValue) → items_view (slice_set vs i w) ≡ with_nth (items_view vs) i (view w)
items_view_set [] i w = refl
items_view_set (v ∷ vs) zero w = refl
items_view_set (v ∷ vs) (suc i) w = ap (item (view v)) (items_view_set vs i w)

-- the array that a value is, after an item was set
pub tree_with_item : (v : JsonValue) (list : Vec JsonValue Global) (i : ℕ) (w : JsonValue) → array_part v ≡ Some list
    → view (made.Array (with_item list i w)) ≡ with_tree_at (view v) i (view w)
tree_with_item v list i w held = view_Array (with_item list i w) ∙ (ap array (items_view_set list.items i w)
    ∙ ap (λ t. with_tree_at t i (view w)) (sym (ap view (sym (put_of_array v list held)) ∙ view_Array list)))

-- the object that a value is, after a member was written
pub tree_with_member : (v : JsonValue) (m n : JsonMap) (bs : List ℕ) (w : JsonValue) → IsUtf8 bs → object_part v ≡ Some m
    → IsSome (get_by_text m bs)
    → ((q : String Global) → lookup (string_eq q) n.entries ≡ cond (bytes_eq bs (string_bytes q)) (Some w) (lookup (string_eq q) m.entries))
    → view (made.Object n) ≡ with_tree_at_key (view v) (chars bs) (view w)
tree_with_member v m n bs w u held there updates = view_Object n ∙ (ap object (members_view_writes m.entries n.entries bs w u there updates)
    ∙ ap (λ t. with_tree_at_key t (chars bs) (view w)) (sym (ap view (sym (put_of_object v m held)) ∙ view_Object m)))

pub is_member_at : (v : JsonValue) (bs : List ℕ) (x : JsonValue) → IsUtf8 bs → member_at v bs ≡ Some x → IsMemberAt v bs x
is_member_at v bs x u h = by (object_part v) refl h
  where
    by : (o : Option _) → object_part v ≡ o → option_and_then (λ m. get_by_text m bs) o ≡ Some x → IsMemberAt v bs x
    by None e g = cc
    by (Some m) e g = (
      h,
      ap (λ t. tree_at_key t (chars bs)) (ap view (sym (put_of_object v m e)) ∙ view_Object m)
          ∙ (find_members_view bs u m.entries ∙ ap (option_map view) g),
    )
