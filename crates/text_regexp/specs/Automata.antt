-- What an automaton remembers; for private contracts.
use Rattle.std.specs.Prelude.{◌≡◌, ℕ, zero, suc, ◌<◌, ◌≤◌, ◌+◌, ◌*◌, Bool, true, false, List, ◌∷◌, ◌++◌, length, get_or, slice_get}
use Rattle.std.specs.Prelude.{Some}
use Rattle.std.specs.Option.{option_map_or}
use Rattle.text_regexp.specs.Marked.{ends_here, placed, reads, verdict_in}
use Rattle.text_regexp.specs.declared.state.State.{State}
use Rattle.text_regexp.specs.declared.marked.Node.{Node}

-- whether the text is matched from a row on: the start, or a state
abbrev pub row_reads : Node → List State → ℕ → List ℕ → Bool
row_reads root states zero cs = reads true root cs
row_reads root states (suc k) cs = option_map_or (λ s. reads false (placed root s.marks.items) cs) (slice_get states k) false

-- what is kept of the state is right
abbrev pub IsState : Node → State → Type 0
IsState root s = (s.ends ≡ ends_here (placed root s.marks.items)) × (s.verdict ≡ verdict_in (placed root s.marks.items))

-- so it is for each of the states
abbrev pub AreStates : Node → List State → Type 0
AreStates root states = (k : ℕ) (s : State) → slice_get states k ≡ Some s → IsState root s

-- the list begins with all that was in it
abbrev pub Extends : List State → List State → Type 0
Extends old new = (more : List State) × (new ≡ old ++ more)

-- each step that is kept leads to a row from which the rest of a text is matched exactly if all is from the row before
abbrev pub Knows : Node → List State → List ℕ → Type 0
Knows root states steps = (row c next : ℕ) → c < 128 → get_or steps (row * 128 + c) 0 ≡ suc next
    → (row ≤ length states) × (suc next ≤ length states)
    × ((cs : List ℕ) → row_reads root states (suc next) cs ≡ row_reads root states row (c ∷ cs))

-- from that row the rest of a text is matched exactly if the character and the rest are from the row before
abbrev pub LeadsTo : Node → List State → List State → ℕ → ℕ → ℕ → Type 0
LeadsTo root old new row c next =
    (next ≤ length new) × ((cs : List ℕ) → row_reads root new next cs ≡ row_reads root old row (c ∷ cs))

-- the state at that place has these marks
abbrev pub HasMarksAt : List State → ℕ → List ℕ → Type 0
HasMarksAt states place ms = (s : State) × (slice_get states place ≡ Some s) × (s.marks.items ≡ ms)

-- from that row a text is matched exactly if it is from the state
abbrev pub IsRowOf : Node → List State → ℕ → State → Type 0
IsRowOf root states next s =
    (0 < next) × (next ≤ length states)
    × ((cs : List ℕ) → row_reads root states next cs ≡ reads false (placed root s.marks.items) cs)
