-- Lists with an item replaced.
use Rattle.std.specs.Prelude.{◌≡◌, ◌≢◌, ℕ, Some, None, Result, Ok, Err}
use Rattle.tinyjson.specs.Index.{tree_at, with_tree_at}
use Rattle.tinyjson.specs.Tree.{Tree}
use Rattle.tinyjson.specs.View.{view}
use Rattle.tinyjson.specs.declared.value.JsonValue.{JsonValue}

-- the old item is returned, and the new one replaces it; or there is none, and nothing changes
abbrev pub ReplacesServer : Tree → ℕ → JsonValue → Result JsonValue JsonValue → Tree → Type 0
ReplacesServer t i server (Ok old) u =
    (tree_at t i ≡ Some (view old)) × (tree_at u i ≡ Some (view server))
    × (u ≡ with_tree_at t i (view server))
ReplacesServer t i server (Err given) u = (tree_at t i ≡ None) × (given ≡ server) × (u ≡ t)

-- the trees have the same at each other index
abbrev pub KeepsOthers : Tree → ℕ → Tree → Type 0
KeepsOthers t i u = (j : ℕ) → i ≢ j → tree_at u j ≡ tree_at t j
