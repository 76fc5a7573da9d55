-- How deep the schemas in a schema are.
use Rattle.std.proofs.Common.{◌≡◌, ◌∷◌, [], ℕ, zero, suc, ◌<◌, ◌≤◌, List, String, Global, Bor, length, get_or, ap, arith}
use Rattle.tinyjson.specs.Tree.{Tree, array, object, tree_depth, items_depth, members_depth}
use Rattle.tinyjson.specs.View.{view, items_view, members_listed}
use Rattle.tinyjson.specs.declared.value.JsonValue.{JsonValue}
use Rattle.tinyjson_schema_keywords.specs.Applied.{items_in, members_in}

pub listed_depth : (ps : List (Bor (String Global) × Bor JsonValue)) (i : ℕ) (p : Bor (String Global) × Bor JsonValue) → i < length ps
    → p ≡ get_or ps i p → tree_depth (view p.1.now) ≤ members_depth (members_listed ps)
listed_depth [] i p h e = absurd (omega arith)
listed_depth (q ∷ ps) zero p h e = omega (arith, ap (λ (x : Bor (String Global) × Bor JsonValue). tree_depth (view x.1.now)) e)
listed_depth (q ∷ ps) (suc i) p h e = omega (arith, listed_depth ps i p (omega arith) e)

pub items_depth_at : (vs : List JsonValue) (i : ℕ) (v : JsonValue) → i < length vs → v ≡ get_or vs i v
    → tree_depth (view v) ≤ items_depth (items_view vs)
items_depth_at [] i v h e = absurd (omega arith)
items_depth_at (w ∷ vs) zero v h e = omega (arith, ap (λ x. tree_depth (view x)) e)
items_depth_at (w ∷ vs) (suc i) v h e = omega (arith, items_depth_at vs i v (omega arith) e)

pub items_in_depth : (t : Tree) → items_depth (items_in t) ≤ tree_depth t
items_in_depth (array ts) = omega arith
items_in_depth _ = omega arith

pub members_in_depth : (t : Tree) → members_depth (members_in t) ≤ tree_depth t
members_in_depth (object ms) = omega arith
members_in_depth _ = omega arith
