-- One step in a tree that is looked into.
use Rattle.std.proofs.Common.{◌≡◌, ℕ, zero, suc, ◌≤◌, List, Option, Some, None, refl, sym, ap, ◌∙◌, arith}
use Rattle.tinyjson.specs.Index.{item_count, nth, tree_at, tree_at_key}
use Rattle.tinyjson.specs.Kind.{kind_of}
use Rattle.tinyjson.specs.Tree.{Tree, null, boolean, number, string, array, object, Items, no_items, item}
use Rattle.tinyjson.specs.JsonKind.TheVariants as kind
use Rattle.tinyjson_document.specs.Parts.{size}
use Rattle.tinyjson_pointer.specs.Index.{index_of}
use Rattle.tinyjson_pointer.specs.Walk.{step, item_of}

pub member_step : (t : Tree) (k : List ℕ) → kind.Object ≡ kind_of t → tree_at_key t k ≡ step t k
member_step (object ms) k h = refl
member_step _ k h = absurd cc

pub item_step : (t : Tree) (k : List ℕ) (i : ℕ) → kind.Array ≡ kind_of t → index_of k ≡ Some i → tree_at t i ≡ step t k
item_step (array ts) k i h e = sym (ap (item_of ts) e)
item_step _ k i h e = absurd cc

nth_beyond : (ts : Items) (i : ℕ) → item_count ts ≤ i → nth ts i ≡ None
nth_beyond no_items i h = refl
nth_beyond (item t ts) zero h = absurd (omega (arith, h))
nth_beyond (item t ts) (suc i) h = nth_beyond ts i (omega (arith, h))

no_item : (ts : Items) (o : Option ℕ) → ((i : ℕ) → o ≡ Some i → item_count ts ≤ i) → None ≡ item_of ts o
no_item ts None h = refl
no_item ts (Some i) h = sym (nth_beyond ts i (h i refl))

pub no_item_step : (t : Tree) (k : List ℕ) → kind.Array ≡ kind_of t → ((i : ℕ) → index_of k ≡ Some i → size t ≤ i) → None ≡ step t k
no_item_step (array ts) k h e = no_item ts (index_of k) e
no_item_step _ k h e = absurd cc

pub no_step : (t : Tree) (k : List ℕ) → (kind_of t ≡ kind.Object → ⊥) → (kind_of t ≡ kind.Array → ⊥) → None ≡ step t k
no_step (object ms) k h g = absurd (h refl)
no_step (array ts) k h g = absurd (g refl)
no_step _ k h g = refl
