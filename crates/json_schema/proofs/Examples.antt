-- A small use of each lemma of `Rattle.tinyjson.proofs.Callers` on the entries of a map that no other proof needs.
use Rattle.std.proofs.Common.{◌≡◌, ◌++◌, ◌∷◌, ℕ, List, Some, sym, ◌∙◌}
use Rattle.std.specs.List.{IsDistinct}
use Rattle.std.specs.Map.{keys_of}
use Rattle.std.specs.Prelude.{slice_get}
use Rattle.std.specs.String.{string_eq}
use Rattle.tinyjson.proofs.Callers as callers
use Rattle.tinyjson.proofs.Callers.{Entry}
use Rattle.tinyjson.specs.Index.{nth}
use Rattle.tinyjson.specs.Tree.{Tree, find}
use Rattle.tinyjson.specs.View.{view, text, items_view, members_view}
use Rattle.tinyjson.specs.declared.value.JsonValue.{JsonValue}

pub entry_is_there : (done more : List Entry) (e : Entry) → IsDistinct string_eq (keys_of (done ++ e ∷ more))
    → find (text e.0) (members_view (done ++ e ∷ more)) ≡ Some (view e.1)
entry_is_there done more e h = callers.find_entry done more e h

pub entry_at : (es : List Entry) (k : List ℕ) (t : Tree) → find k (members_view es) ≡ Some t → (e : Entry) × (text e.0 ≡ k) × (view e.1 ≡ t)
entry_at es k t h = let found = callers.entry_from_find es k t h in (found.entry, sym found.key, found.tree)

pub item_with : (vs : List JsonValue) (i : ℕ) (t : Tree) → nth (items_view vs) i ≡ Some t
    → (v : JsonValue) × (slice_get vs i ≡ Some v) × (view v ≡ t)
item_with vs i t h = callers.value_from_tree (slice_get vs i) t (sym (callers.nth_items_view vs i) ∙ h)
