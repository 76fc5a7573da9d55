-- One step in a value, and the step in its tree.
use Rattle.std.proofs.Common.{◌≡◌, ℕ, zero, suc, ◌≤◌, length, List, [], ◌∷◌, Option, Some, None, option_map, Vec, Global, Bor, refl, sym}
use Rattle.std.proofs.Common.{ap, ◌∙◌, arith}
use Rattle.std.specs.HashMap.{get_by_text}
use Rattle.std.specs.Prelude.{slice_get}
use Rattle.std.specs.Str.{IsUtf8, chars}
use Rattle.tinyjson.proofs.Callers.{view_Array, view_Object, view_ref, find_get, nth_items_view}
use Rattle.tinyjson.specs.Access.{JsonMap}
use Rattle.tinyjson.specs.Index.{nth}
use Rattle.tinyjson.specs.View.{view, items_view}
use Rattle.tinyjson.specs.declared.value.JsonValue.{JsonValue}
use Rattle.tinyjson.specs.declared.value.JsonValue.TheVariants as is
use Rattle.tinyjson_pointer.specs.Index.{index_of}
use Rattle.tinyjson_pointer.specs.Walk.{step, item_of}

pub nth_past : (vs : List JsonValue) (i : ℕ) → length vs ≤ i → nth (items_view vs) i ≡ None
nth_past [] i h = refl
nth_past (v ∷ vs) zero h = absurd (omega arith)
nth_past (v ∷ vs) (suc i) h = nth_past vs i (omega arith)

pub step_object : (v : JsonValue) (m : JsonMap) (bs : List ℕ) (r : Option (Bor JsonValue)) → v ≡ is.Object m → IsUtf8 bs
    → option_map (λ x. x.now) r ≡ get_by_text m bs
    → option_map (λ x. view x.now) r ≡ step (view v) (chars bs)
step_object v m bs r e u g =
    view_ref r ∙ (ap (option_map view) g ∙ (sym (find_get m bs u) ∙ ap (λ t. step t (chars bs)) (sym (ap view e ∙ view_Object m))))

pub step_item : (v : JsonValue) (l : Vec JsonValue Global) (k : List ℕ) (i : ℕ) (r : Option (Bor JsonValue)) → v ≡ is.Array l
    → index_of k ≡ Some i → option_map (λ x. x.now) r ≡ slice_get l.items i
    → option_map (λ x. view x.now) r ≡ step (view v) k
step_item v l k i r e at g =
    view_ref r ∙ (ap (option_map view) g ∙ (sym (nth_items_view l.items i)
    ∙ (ap (item_of (items_view l.items)) (sym at) ∙ ap (λ t. step t k) (sym (ap view e ∙ view_Array l)))))

pub no_item : (l : Vec JsonValue Global) (o : Option ℕ) → ((i : ℕ) → o ≡ Some i → length l.items ≤ i)
    → None ≡ item_of (items_view l.items) o
no_item l None h = refl
no_item l (Some i) h = sym (nth_past l.items i (h i refl))

pub step_past : (v : JsonValue) (l : Vec JsonValue Global) (k : List ℕ) → v ≡ is.Array l
    → ((i : ℕ) → index_of k ≡ Some i → length l.items ≤ i) → None ≡ step (view v) k
step_past v l k e h = no_item l (index_of k) h ∙ ap (λ t. step t k) (sym (ap view e ∙ view_Array l))
