-- The machine that parses the marks of branches outside of groups; for private contracts.
use Rattle.std.specs.Prelude.{◌≡◌, ℕ, ◌≤◌, ◌<◌, Bool, true, false, ◌&&◌, cond, List, [], ◌∷◌, ◌++◌, length, map, Option, Some, None}
use Rattle.std.specs.Prelude.{option_map, option_and_then, Result, Ok, Err}
use Rattle.text_iregexp.specs.declared.branches.Branches.{Branches}
use Rattle.text_iregexp.specs.declared.error.IRegexpErrorKind.{IRegexpErrorKind}
use Rattle.text_iregexp.specs.declared.error.IRegexpErrorKind.TheVariants as kind
use Rattle.text_regexp.specs.declared.assertion.Assertion.{Assertion}
use Rattle.text_regexp.specs.declared.assertion.Assertion.TheVariants.{Start, End}
use Rattle.text_regexp.specs.declared.expression.Expression.{Expression}
use Rattle.text_regexp.specs.Building.{form_of, choice}
use Rattle.text_regexp.specs.Forms.{Form, empty, class, concat, repetition, Matches}
use Rattle.text_iregexp.specs.Grammar.{Token, opened, bar, asserted, Piece, asserts, Branch, branch_form}
use Rattle.text_iregexp.specs.Levels.{Level, level, State, fresh, settled, branch_of, advance, state_size, Agrees, IsFit}
use Rattle.text_iregexp.specs.Limits.{depth_limit, size_limit}
use Rattle.text_iregexp.specs.Patterns as pattern
use Rattle.text_iregexp.specs.Patterns.{Mark, token, Disjunction, AreSmall}

-- Whether the branches have to match at the beginning of the text, those that have ended, and what
-- was parsed of the last one.
pub record PartsState : Type 0 where
  pub fixed : Bool
  pub parts : List Branch
  pub state : State

-- the state before the first mark
abbrev pub initial : Bool → PartsState
initial fixed = record { fixed = fixed; parts = []; state = (fresh, []) }

-- no group is open
abbrev pub no_levels : List Level → Bool
no_levels [] = true
no_levels (l ∷ ls) = false

-- nothing was parsed of it
abbrev pub is_blank : Level → Bool
is_blank (level [] [] None) = true
is_blank l = false

-- one piece was parsed of it
abbrev pub is_single : Level → Bool
is_single (level [] (p ∷ []) None) = true
is_single l = false

-- the assertion is `^`, or it is `$`
abbrev pub is_start : Assertion → Bool
is_start Start = true
is_start a = false

abbrev pub is_end : Assertion → Bool
is_end End = true
is_end a = false

abbrev pub is_start_token : Token → Bool
is_start_token (asserted kind) = is_start kind
is_start_token t = false

abbrev pub is_end_token : Token → Bool
is_end_token (asserted kind) = is_end kind
is_end_token t = false

abbrev pub is_start_piece : Piece → Bool
is_start_piece (asserts kind) = is_start kind
is_start_piece p = false

abbrev pub is_end_piece : Piece → Bool
is_end_piece (asserts kind) = is_end kind
is_end_piece p = false

-- the first piece is `^`
abbrev pub first_starts : List Piece → Bool
first_starts [] = false
first_starts (p ∷ ps) = is_start_piece p

-- the last piece is `$`
abbrev pub last_ends : List Piece → Bool
last_ends [] = false
last_ends (p ∷ []) = is_end_piece p
last_ends (p ∷ q ∷ ps) = last_ends (q ∷ ps)

-- the branch, of which this was parsed, begins with `^`, or ends with `$` so far
abbrev pub starts_at : Level → Bool
starts_at (level [] ps end) = first_starts ps
starts_at (level (b ∷ bs) ps end) = false

abbrev pub ends_at : Level → Bool
ends_at (level bs ps None) = last_ends ps
ends_at (level bs ps (Some a)) = false

-- what was parsed outside of groups
abbrev pub outermost : Level → List Level → Level
outermost l [] = l
outermost l (o ∷ ls) = outermost o ls

abbrev pub starts_in : State → Bool
starts_in s = starts_at (outermost s.0 s.1)

abbrev pub ends_in : State → Bool
ends_in s = no_levels s.1 && ends_at s.0

abbrev pub is_unread : State → Bool
is_unread s = is_blank s.0 && no_levels s.1

-- nothing was read of the last branch but a `^`, or not even that
abbrev pub is_before : PartsState → Bool → Bool
is_before s starts = no_levels s.state.1 && cond starts (starts_at s.state.0 && is_single s.state.0) (is_blank s.state.0)

abbrev pub is_bar : Token → Bool
is_bar bar = true
is_bar t = false

-- the branch, as if it ended here
abbrev pub branch_in : Level → Branch
branch_in (level bs ps end) = branch_of (settled ps end)

abbrev pub part_in : PartsState → Branch
part_in s = branch_in s.state.0

-- all branches, as if they ended here
abbrev pub disjunction_in : PartsState → Disjunction
disjunction_in s = record { before = s.parts; last = part_in s }

-- a branch has ended
abbrev pub next_part : PartsState → PartsState
next_part s = record { fixed = s.fixed; parts = s.parts ++ part_in s ∷ []; state = (fresh, []) }

abbrev pub with_state : PartsState → State → PartsState
with_state s u = record { fixed = s.fixed; parts = s.parts; state = u }

-- a token is read
abbrev pub take_token : PartsState → Token → Option PartsState
take_token s t = cond (no_levels s.state.1 && is_bar t) (Some (next_part s)) (option_map (with_state s) (advance s.state t))

-- a mark is read
abbrev pub advance_mark : PartsState → Mark → Option PartsState
advance_mark s (pattern.look negated) = None
advance_mark s (token t) = take_token s t

-- the marks are read, one after the other
abbrev pub run_marks : PartsState → List Mark → Option PartsState
run_marks s [] = Some s
run_marks s (m ∷ ms) = option_and_then (λ u. run_marks u ms) (advance_mark s m)

-- no branch has ended outside of groups
abbrev pub no_done : Level → Bool
no_done (level [] ps end) = true
no_done (level (b ∷ bs) ps end) = false

abbrev pub is_bare : Level → List Level → Bool
is_bare l [] = no_done l
is_bare l (o ∷ ls) = is_bare o ls

-- ---- what is matched

-- any text, unless this end is anchored
abbrev pub open_form : Bool → Form
open_form true = empty
open_form false = repetition (class true []) 0 None

-- the branch with any text before and after it; with `fixed` none before it
abbrev pub form_at : Bool → Branch → Form
form_at fixed b = concat (open_form fixed) (concat (branch_form b) (open_form false))

-- the level without its first piece, or its last one
abbrev pub without_first : Level → Level
without_first (level bs [] end) = level bs [] end
without_first (level bs (p ∷ ps) end) = level bs ps end

abbrev pub all_but_last : List Piece → List Piece
all_but_last [] = []
all_but_last (p ∷ []) = []
all_but_last (p ∷ q ∷ ps) = p ∷ all_but_last (q ∷ ps)

abbrev pub without_last : Level → Level
without_last (level bs ps end) = level bs (all_but_last ps) end

abbrev pub disjunction_form : Bool → Disjunction → Form
disjunction_form fixed p = choice (map (form_at fixed) (p.before ++ p.last ∷ []))

-- ---- the code

-- The expression matches the whole texts that the form matches.
pub record MeansWhole (n : Expression) (f : Form) : Type 0 where
  pub sound : (cs : List ℕ) → Matches (form_of n) cs → Matches f cs
  pub complete : (cs : List ℕ) → Matches f cs → Matches (form_of n) cs

-- the expressions do so, one by one
abbrev pub AllMeanWhole : List Expression → List Form → Type 0
AllMeanWhole [] [] = Unit {0}
AllMeanWhole [] (f ∷ fs) = ⊥
AllMeanWhole (n ∷ ns) [] = ⊥
AllMeanWhole (n ∷ ns) (f ∷ fs) = MeansWhole n f × AllMeanWhole ns fs

-- the code's state is that state
pub record AgreesAt (b : Branches) (s : PartsState) : Type 0 where
  pub fixed : b.fixed ≡ s.fixed
  pub starts : b.starts ≡ starts_in s.state
  pub ends : b.ends ≡ ends_in s.state
  pub parts : AllMeanWhole b.parts.items (map (form_at s.fixed) s.parts)
  pub small : AreSmall s.parts
  pub agrees : Agrees b.here b.outer.items s.state
  pub bare : is_bare s.state.0 s.state.1 ≡ true

-- what a mark does to a state
abbrev pub TakesMark : Branches → Mark → Result (Unit {0}) IRegexpErrorKind → Branches → Type 0
TakesMark old m (Ok x) new =
    (s : PartsState) → AgreesAt old s → (u : PartsState) × (advance_mark s m ≡ Some u) × AgreesAt new u
TakesMark old m (Err kind.Invalid) new = (s : PartsState) → AgreesAt old s → advance_mark s m ≡ None
TakesMark old m (Err kind.TooDeep) new = (m ≡ token opened) × (depth_limit ≤ length old.outer.items)
TakesMark old m (Err kind.TooLarge) new =
    (s : PartsState) → AgreesAt old s → (u : PartsState) × (advance_mark s m ≡ Some u) × (size_limit < state_size u.state)
TakesMark old m (Err kind.OutOfMemory) new = Unit {0}

-- the end of all branches
abbrev pub Finishes : Branches → Expression → Type 0
Finishes old n =
    (s : PartsState) → AgreesAt old s → no_levels s.state.1 ≡ true
    → MeansWhole n (disjunction_form s.fixed (disjunction_in s)) × AreSmall (s.parts ++ part_in s ∷ [])

-- the end of a branch
abbrev pub EndsPart : Branches → List Expression → Type 0
EndsPart old ns =
    (s : PartsState) → AgreesAt old s → no_levels s.state.1 ≡ true
    → AllMeanWhole ns (map (form_at s.fixed) (s.parts ++ part_in s ∷ [])) × AreSmall (s.parts ++ part_in s ∷ [])

-- the first count of a quantifier is at most the second
abbrev pub IsFitMark : Mark → Type 0
IsFitMark (pattern.look negated) = Unit {0}
IsFitMark (token t) = IsFit t
