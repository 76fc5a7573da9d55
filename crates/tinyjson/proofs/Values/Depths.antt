-- What stands in a container is less deep; its items by their number.
use Rattle.std.proofs.Common.{◌≡◌, ℕ, zero, suc, ◌<◌, ◌≤◌, max, Bool, true, false, cond, List, [], ◌∷◌, Some, None, length, bytes_eq, refl}
use Rattle.std.proofs.Common.{ap, arith}
use Rattle.tinyjson.specs.Index.{nth, item_count}
use Rattle.tinyjson.specs.View.{items_view}
use Rattle.tinyjson.specs.declared.value.JsonValue.{JsonValue}
use Rattle.tinyjson_grammar.specs.Tree.{Tree, array, object, Items, no_items, item, Members, no_members, member, find, tree_depth}
use Rattle.tinyjson_grammar.specs.Tree.{items_depth, members_depth}

within_items : (ts : Items) (i : ℕ) (t : Tree) → nth ts i ≡ Some t → tree_depth t ≤ items_depth ts
within_items no_items i t h = cc
within_items (item u ts) zero t h = let e : tree_depth u ≡ tree_depth t = ap tree_depth cc in omega arith
within_items (item u ts) (suc i) t h = let l = within_items ts i t h in omega arith

-- an item of an array
pub item_less_deep : (ts : Items) (i : ℕ) (t : Tree) → nth ts i ≡ Some t → tree_depth t < tree_depth (array ts)
item_less_deep ts i t h = let l = within_items ts i t h in omega arith

within_members : (ms : Members) (k : List ℕ) (t : Tree) → find k ms ≡ Some t → tree_depth t ≤ members_depth ms
within_members no_members k t h = cc
within_members (member l u ms) k t h = by (bytes_eq k l) h (within_members ms k t)
  where
    by : (b : Bool) → cond b (Some u) (find k ms) ≡ Some t → (find k ms ≡ Some t → tree_depth t ≤ members_depth ms)
        → tree_depth t ≤ max (tree_depth u) (members_depth ms)
    by true g later = let e : tree_depth u ≡ tree_depth t = ap tree_depth cc in omega arith
    by false g later = let m = later g in omega arith

-- a member of an object
pub member_less_deep : (ms : Members) (k : List ℕ) (t : Tree) → find k ms ≡ Some t → tree_depth t < tree_depth (object ms)
member_less_deep ms k t h = let l = within_members ms k t h in omega arith

-- as many items as the vector has
pub item_count_view : (vs : List JsonValue) → item_count (items_view vs) ≡ length vs
item_count_view [] = refl
item_count_view (v ∷ vs) = ap suc (item_count_view vs)

-- past the end nothing is there
pub nth_past : (ts : Items) (i : ℕ) → item_count ts ≤ i → nth ts i ≡ None
nth_past no_items i h = refl
nth_past (item t ts) zero h = absurd (omega arith)
nth_past (item t ts) (suc i) h = nth_past ts i (omega arith)
