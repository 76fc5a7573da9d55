-- A small use of each lemma of `Rattle.tinyjson.proofs.Callers` that neither a program nor the laws need.
use Rattle.std.proofs.Common.{◌≡◌, ◌<◌, ◌≤◌, ◌++◌, ◌∷◌, ℕ, true, false, List, Some, None, option_map, is_some, length, String, Vec, Global}
use Rattle.std.proofs.Common.{Equal, refl, sym, ap, ◌∙◌, subst}
use Rattle.std.specs.HashMap.{get}
use Rattle.std.specs.List.{IsDistinct}
use Rattle.std.specs.Map.{keys_of}
use Rattle.std.specs.Prelude.{slice_get}
use Rattle.std.specs.String.{string_eq}
use Rattle.tinyjson.proofs.Callers as callers
use Rattle.tinyjson.proofs.Callers.{Entry}
use Rattle.tinyjson.specs.Access.{JsonMap, is_array, is_boolean, is_number, is_object, is_string}
use Rattle.tinyjson.specs.Access.{array_part, boolean_part, number_part, object_part, string_part}
use Rattle.tinyjson.specs.Index.{nth}
use Rattle.tinyjson.specs.Tree.{Tree, array, object, Members, find, key_cmp, tree_depth}
use Rattle.tinyjson.specs.View.{view, text, items_view, members_view}
use Rattle.tinyjson.specs.declared.value.JsonValue.{JsonValue}
use Rattle.tinyjson.specs.declared.value.JsonValue.TheVariants as made

-- ---- what stands in a container is less deep

pub item_is_less_deep : (l : Vec JsonValue Global) (i : ℕ) (x : JsonValue) → slice_get l.items i ≡ Some x
    → tree_depth (view x) < tree_depth (view (made.Array l))
item_is_less_deep l i x h =
    subst (λ t. tree_depth (view x) < tree_depth t) (sym (callers.view_Array l))
    (callers.item_less_deep (items_view l.items) i (view x) (callers.nth_items_view l.items i ∙ ap (option_map view) h))

pub member_is_less_deep : (m : JsonMap) (k : String Global) (x : JsonValue) → get string_eq m k ≡ Some x
    → tree_depth (view x) < tree_depth (view (made.Object m))
member_is_less_deep m k x h =
    subst (λ t. tree_depth (view x) < tree_depth t) (sym (callers.view_Object m))
    (callers.member_less_deep (members_view m.entries) (text k) (view x) (callers.find_get_text m k ∙ ap (option_map view) h))

-- ---- past the end, and at a key

pub nothing_past : (vs : List JsonValue) (i : ℕ) → length vs ≤ i → nth (items_view vs) i ≡ None
nothing_past vs i h = callers.nth_past (items_view vs) i (subst (λ n. n ≤ i) (sym (callers.item_count_view vs)) h)

pub not_there_again : (done more : List Entry) (e : Entry) → IsDistinct string_eq (keys_of (done ++ e ∷ more))
    → find (text e.0) (members_view more) ≡ None
not_there_again done more e h = callers.find_more done more e h

pub one_place : (k l : List ℕ) (ms : Members) → key_cmp k l ≡ Equal → find k ms ≡ find l ms
one_place k l ms h = ap (λ x. find x ms) (callers.key_same k l h)

-- ---- of two values with one tree the tests say the same

module _ (v w : JsonValue) (one : view w ≡ view v) where
  pub same_truth : is_some (boolean_part w) ≡ is_some (boolean_part v)
  same_truth = callers.is_boolean_view w ∙ (ap is_boolean one ∙ sym (callers.is_boolean_view v))

  pub same_number : is_some (number_part w) ≡ is_some (number_part v)
  same_number = callers.is_number_view w ∙ (ap is_number one ∙ sym (callers.is_number_view v))

  pub same_string : is_some (string_part w) ≡ is_some (string_part v)
  same_string = callers.is_string_view w ∙ (ap is_string one ∙ sym (callers.is_string_view v))

-- an array is no object
array_alone : (t : Tree) → is_array t ≡ true → is_object t ≡ false
array_alone (array ts) h = refl
array_alone (object ms) h = cc
array_alone _ h = refl

pub no_object_beside : (v : JsonValue) → is_some (array_part v) ≡ true → is_some (object_part v) ≡ false
no_object_beside v h = callers.is_object_view v ∙ array_alone (view v) (sym (callers.is_array_view v) ∙ h)
