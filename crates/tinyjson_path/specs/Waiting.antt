-- Nodes that wait for segments. Only private contracts use these words.
use Rattle.std.specs.Prelude.{◌≡◌, ◌<◌, ℕ, Bool, true, false, List, ◌∷◌, [], ◌++◌, map, drop, reverse, length, get_or, Option, Some}
use Rattle.tinyjson.specs.Index.{tree_at, tree_at_key}
use Rattle.tinyjson.specs.Tree.{Tree, array, object}
use Rattle.tinyjson_path.specs.Nodes.{Step, at_key, at_index, Part, path_of, part_view}
use Rattle.tinyjson_path.specs.Queries.{one_by_one, segment_parts}
use Rattle.tinyjson_path.specs.Selecting.{from_each}
use Rattle.tinyjson_path.specs.Strings.{Texts, strings_of}
use Rattle.tinyjson_path.specs.declared.children.Wanted.{Wanted}
use Rattle.tinyjson_path.specs.declared.children.Wanted.TheVariants.{All, Containers}
use Rattle.tinyjson_path.specs.declared.node.Located.{Located}
use Rattle.tinyjson_path.specs.declared.waiting.Waiting.{Waiting}
use Rattle.tinyjson_path_query.specs.declared.query.Segment.{Segment}

-- a part, and the index of the first segment that is left for it
abbrev pub Wait : Type 0
Wait = ℕ × Part

abbrev pub wait_view : Waiting → Wait
wait_view w = (w.segment, part_view w.node)

abbrev pub waits_view : List Waiting → List Wait
waits_view ws = map wait_view ws

abbrev pub waits_at : ℕ → List Part → List Wait
waits_at i ps = map (λ p. (i, p)) ps

-- what the segments from the index on select from the part
abbrev pub rest_of : List Segment → Tree → Wait → List Part
rest_of ss root w = one_by_one root (map segment_parts (drop w.0 ss)) (w.1 ∷ [])

-- of those that wait the last one is the next
abbrev pub waits_left : List Segment → Tree → List Wait → List Part
waits_left ss root ws = from_each (rest_of ss root) (reverse ws)

abbrev pub waits_parts : List Wait → List Part
waits_parts ws = map (λ w. w.1) ws

-- the strings of those that wait
abbrev pub waits_strings : List Wait → Texts
waits_strings ws = strings_of (waits_parts ws)

-- ---- the children that wait

abbrev pub is_container : Tree → Bool
is_container (array ts) = true
is_container (object ms) = true
is_container _ = false

abbrev pub wants : Wanted → Tree → Bool
wants All t = true
wants Containers t = is_container t

-- ---- nodes that wait twice

abbrev pub at_step : Step → Tree → Option Tree
at_step (at_key k) t = tree_at_key t k
at_step (at_index i) t = tree_at t i

abbrev pub IsChild : Part → Part → Type 0
IsChild p q = (s : Step) × (q.path ≡ p.path ++ s ∷ []) × (at_step s p.tree ≡ Some q.tree)

abbrev pub AreChildren : Part → List Part → Type 0
AreChildren p [] = Unit {0}
AreChildren p (q ∷ qs) = IsChild p q × AreChildren p qs

-- two paths with one last step
abbrev pub EndAlike : List Step → List Step → Type 0
EndAlike xs ys = (s : Step) × (up : List Step) × (over : List Step) × (xs ≡ up ++ s ∷ []) × (ys ≡ over ++ s ∷ [])

-- the last step of the node is that of one of the nodes
abbrev pub HasTwin : Located → List Located → Type 0
HasTwin n ns = (i : ℕ) × (m : Located) × (i < length ns) × (m ≡ get_or ns i m) × EndAlike (path_of n) (path_of m)

abbrev pub IsAmong : Wait → List Wait → Type 0
IsAmong w ws = (front : List Wait) × (rest : List Wait) × (ws ≡ front ++ w ∷ rest)

-- each that repeats is the same as one of those above it
abbrev pub AreMarked : List Waiting → Type 0
AreMarked [] = Unit {0}
AreMarked (w ∷ ws) = (w.repeats ≡ true → IsAmong (wait_view w) (waits_view ws)) × AreMarked ws

-- what was put behind those that waited
abbrev pub Puts : List Waiting → List Waiting → Type 0
Puts old new = (put : List Waiting) × (new ≡ old ++ put) × AreMarked put
