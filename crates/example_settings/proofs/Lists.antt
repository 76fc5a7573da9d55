-- The items of a list, before one is replaced and after.
use Rattle.std.proofs.Common.{◌≡◌, ℕ, ◌≤◌, ◌<◌, length, arith, Some, None, IsSome, option_map, Vec, Global, sym, ap, ◌∙◌, refl, subst}
use Rattle.std.proofs.lemmas.Grind.{common_steps}
use Rattle.std.proofs.lemmas.Option.{slice_get_cases}
use Rattle.std.specs.Prelude.{slice_get, option_and_then}
use Rattle.tinyjson.proofs.Callers.{tree_at_view, nth_with_nth, nth_with_nth_other}
use Rattle.tinyjson.specs.Access.{array_part}
use Rattle.tinyjson.specs.Index.{item_at, tree_at, with_tree_at}
use Rattle.tinyjson.specs.Tree.{Tree, array}
use Rattle.tinyjson.specs.View.{view}
use Rattle.tinyjson.specs.declared.value.JsonValue.{JsonValue}
use Rattle.example_settings.specs.Servers.{KeepsOthers}

-- an array has an item at each index below its length, and no other
module _ (v : JsonValue) (l : Vec JsonValue Global) (i : ℕ) (held : array_part v ≡ Some l) where
  pub has_item : i < length l.items → IsSome (item_at v i)
  has_item below = subst (λ o. IsSome (option_and_then (λ x. slice_get x.items i) o)) (sym held)
      (grind (arith, common_steps, slice_get_cases l.items i))

  pub past_the_end : length l.items ≤ i → tree_at (view v) i ≡ None
  past_the_end past =
      let none : slice_get l.items i ≡ None = grind (arith, common_steps, slice_get_cases l.items i) in
      tree_at_view v i ∙ (ap (λ o. option_map view (option_and_then (λ x. slice_get x.items i) o)) held ∙ ap (option_map view) none)

-- the new item is found at the index
pub is_found : (t u w : Tree) (i : ℕ) → tree_at t i ≡ Some w → tree_at (with_tree_at t i u) i ≡ Some u
is_found (array ts) u w i h = nth_with_nth ts i u w h
is_found _ u w i h = cc

-- each other is where it was
pub keeps_others : (t u : Tree) (i : ℕ) → KeepsOthers t i (with_tree_at t i u)
keeps_others (array ts) u i j h = nth_with_nth_other ts i j u h
keeps_others _ u i j h = refl
