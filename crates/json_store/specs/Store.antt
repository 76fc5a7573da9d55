-- The counts of a store.
use Rattle.std.specs.Prelude.{◌≡◌, ℕ, ◌+◌, ◌-◌, ◌^◌, min, List, cond, encode_utf8_all}
use Rattle.std.specs.HashMap.{get_by_text}
use Rattle.std.specs.Option.{unwrap_or}
use Rattle.tinyjson.specs.Equality.{tree_eq}
use Rattle.tinyjson.specs.Soundness.{IsTree}
use Rattle.tinyjson.specs.Text.{compact}
use Rattle.tinyjson.specs.Tree.{Tree}
use Rattle.json_store.specs.declared.store.Store.{Store}

-- the bytes of a value's key in the store
abbrev pub key_of : Tree → List ℕ
key_of t = encode_utf8_all (compact t)

-- how often the value was added
abbrev pub count_of : Store → Tree → ℕ
count_of s t = unwrap_or (get_by_text s.counts (key_of t)) 0

-- one more, up to the greatest `u64`
abbrev pub next_count : ℕ → ℕ
next_count n = min (n + 1) (2 ^ 64 - 1)

-- the count of values equal to t grows by one, and all other counts stay
abbrev pub CountsOnce : Store → Tree → Store → Type 0
CountsOnce old t new =
    IsTree t → (u : Tree) → IsTree u → count_of new u ≡ cond (tree_eq t u) (next_count (count_of old t)) (count_of old u)

-- all counts stay
abbrev pub CountsTheSame : Store → Store → Type 0
CountsTheSame old new = (u : Tree) → count_of new u ≡ count_of old u
