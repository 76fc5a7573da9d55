-- Members in the order of their keys; of equal keys only the last. For private contracts.
use Rattle.std.specs.Prelude.{⊤, ℕ, Bool, true, false, ◌&&◌, cond, Option, Some, None, List, [], ◌∷◌}
use Rattle.std.specs.List.Sorted.{IsPermutation, IsSortedBy, IsStableBy}
use Rattle.std.specs.Str.{bytes_eq}
use Rattle.std.specs.Cmp.Lexicographic.{slice_cmp}
use Rattle.std.specs.Ordering.{nat_cmp, is_lt}
use Rattle.tinyjson_cells.specs.declared.store.Span.{Span}
use Rattle.tinyjson_cells.specs.declared.store.Cell.{Cell}
use Rattle.tinyjson_cells.specs.declared.store.Member.{Member}
use Rattle.tinyjson_cells.specs.declared.store.Store.{Store}
use Rattle.tinyjson_cells.specs.Cell.{IsText}
pub use Rattle.tinyjson_cells.specs.Texts.{part}
use Rattle.tinyjson_cells.specs.Texts.{part_of}
use Rattle.tinyjson_cells.specs.declared.texts.Texts.{Texts}
use Rattle.tinyjson_grammar.specs.Tree.{Tree, Members, no_members, member}

-- the key of a member
abbrev pub key_in : Texts → Member → List ℕ
key_in xs m = part_of xs m.key

-- the key of the first member is less than that of the second
abbrev pub key_lt : Texts → Member → Member → Bool
key_lt xs m n = is_lt (slice_cmp nat_cmp (key_in xs m) (key_in xs n))

-- each key with its value
abbrev pub paired : List Span → List Cell → List Member
paired [] vs = []
paired (k ∷ ks) [] = []
paired (k ∷ ks) (v ∷ vs) = record { key = k; value = v } ∷ paired ks vs

-- the first of the members has the same key
abbrev pub comes_again : Texts → Member → List Member → Bool
comes_again xs m [] = false
comes_again xs m (n ∷ ns) = bytes_eq (key_in xs m) (key_in xs n)

-- of neighbours with equal keys only the last
abbrev pub lasts : Texts → List Member → List Member
lasts xs [] = []
lasts xs (m ∷ ms) = cond (comes_again xs m ms) (lasts xs ms) (m ∷ lasts xs ms)

-- the first of the members has a greater key
abbrev pub is_below_next : Texts → Member → List Member → Bool
is_below_next xs m [] = true
is_below_next xs m (n ∷ ns) = key_lt xs m n

-- each key is less than the next one
abbrev pub rise : Texts → List Member → Bool
rise xs [] = true
rise xs (m ∷ ms) = is_below_next xs m ms && rise xs ms

-- the first of the members whose key has these bytes
abbrev pub member_with : Texts → List ℕ → List Member → Option Member
member_with xs bs [] = None
member_with xs bs (m ∷ ms) = cond (bytes_eq bs (key_in xs m)) (Some m) (member_with xs bs ms)

-- the members, stably sorted by their keys
pub record IsOrdered (xs : Texts) (ms ns : List Member) : Type 0 where
  pub permuted : IsPermutation ms ns
  pub sorted : IsSortedBy (key_lt xs) ns
  pub stable : IsStableBy (key_lt xs) ms ns

-- these are the members of an object; R relates a key, its tree and its cell
abbrev pub AreMembersBy : Store → (List ℕ → Tree → Cell → Type 0) → Members → List Member → Type 0
AreMembersBy s R no_members [] = ⊤
AreMembersBy s R no_members (e ∷ es) = ⊥
AreMembersBy s R (member k t ms) [] = ⊥
AreMembersBy s R (member k t ms) (e ∷ es) = IsText s k e.key × R k t e.value × AreMembersBy s R ms es
