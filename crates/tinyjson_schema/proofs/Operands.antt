-- The schemas of indices.
use Rattle.std.proofs.Common.{◌≡◌, ℕ, Option, Some, None, option_map, Vec, Global, Bor, codes, refl, sym, ap, ◌∙◌}
use Rattle.std.specs.Prelude.{option_and_then, slice_get}
use Rattle.tinyjson.proofs.Callers.{view_Array, nth_items_view, view_ref, no_array}
use Rattle.tinyjson.specs.Index.{tree_at, tree_at_key}
use Rattle.tinyjson.specs.Tree.{Tree, Items, array}
use Rattle.tinyjson.specs.View.{view}
use Rattle.tinyjson.specs.declared.value.JsonValue.{JsonValue}
use Rattle.tinyjson.specs.declared.value.JsonValue.TheVariants as is
use Rattle.tinyjson_schema.specs.Parts.{prefix_item}

-- the schema of an index, if there are any, and if there are none
pub prefix_found : (s : Tree) (v : JsonValue) (l : Vec JsonValue Global) (i : ℕ) (r : Option (Bor JsonValue)) → v ≡ is.Array l
    → Some (view v) ≡ tree_at_key s (codes "prefixItems") → option_map (λ x. x.now) r ≡ slice_get l.items i
    → option_map (λ x. view x.now) r ≡ prefix_item s i
prefix_found s v l i r e h g =
    view_ref r ∙ (ap (option_map view) g ∙ (sym (nth_items_view l.items i)
    ∙ (ap (λ t. tree_at t i) (sym (ap view e ∙ view_Array l))
    ∙ ap (option_and_then (λ p. tree_at p i)) h)))

pub prefix_other : (s : Tree) (v : JsonValue) (i : ℕ) → ((l : Vec JsonValue Global) → v ≡ is.Array l → ⊥)
    → Some (view v) ≡ tree_at_key s (codes "prefixItems") → None ≡ prefix_item s i
prefix_other s v i other h = by (view v) (no_array v other)
    ∙ ap (option_and_then (λ p. tree_at p i)) h
  where
    by : (t : Tree) → ((ts : Items) → t ≡ array ts → ⊥) → None ≡ tree_at t i
    by (array ts) n = absurd (n ts refl)
    by _ n = refl

pub prefix_missing : (s : Tree) (i : ℕ) → None ≡ tree_at_key s (codes "prefixItems") → None ≡ prefix_item s i
prefix_missing s i h = ap (option_and_then (λ p. tree_at p i)) h
