-- A run over lines by a handler.
use Rattle.std.specs.Prelude.{◌≡◌, ℕ, suc, Bool, true, false, ◌&&◌, List, [], ◌∷◌, ◌++◌, Option, None, Some, IfSome}
use Rattle.std.specs.Prelude.{Result, Ok, Err, ◌⊎◌}
use Rattle.std.specs.Io.KnownBytes.{Appends, Keeps}
use Rattle.std.specs.declared.io.Error.{Error}
use Rattle.tinyjson.specs.Written.{WrittenPart}
use Rattle.tinyjson_lines.specs.Within.{LinesGiven, AllGiven, given_lines}
use Rattle.tinyjson_lines.specs.declared.within.LineRead.{LineRead}
use Rattle.tinyjson_lines.specs.declared.within.LineRead.TheVariants.{Whole, TooLong, End}

-- The meaning of a handler: what it was, a line's number, the line as it is given, what is written of it, what is
-- reported of it, whether the run goes on, and what the handler is then.
abbrev pub Handles : Type 0 → Type 1
Handles H = H → ℕ → Option (List ℕ) → List ℕ → List ℕ → Bool → H → Type 0

-- The handler does this with one line; or it fails, and then of what is to be written and reported a prefix was.
abbrev pub HandlesLine : {H : Type 0} → Handles H → H → H → ℕ → Option (List ℕ) → Option (List ℕ) → Option (List ℕ) → Option (List ℕ)
    → Option (List ℕ) → Result Bool Error → Type 0
HandlesLine handles old new n line held holds told tells (Ok goes_on) =
    (written words : List ℕ) × handles old n line written words goes_on new × Appends held holds written × Appends told tells words
HandlesLine {H} handles old new n line held holds told tells (Err e) =
    (Keeps held holds × Keeps told tells)
    ⊎ ((written words : List ℕ) × (goes_on : Bool) × (after : H) × handles old n line written words goes_on after
    × WrittenPart held holds written × WrittenPart told tells words)

-- what is done with one line
pub record Step (H : Type 0) : Type 0 where
  pub line : Option (List ℕ)
  pub written : List ℕ
  pub reported : List ℕ
  pub goes_on : Bool
  pub after : H

-- From the line of this number on, the handler does these steps, and is this in the end: only the last may end the run.
abbrev pub Handled : {H : Type 0} → Handles H → H → ℕ → List (Step H) → H → Type 0
Handled handles h n [] last = h ≡ last
Handled handles h n (s ∷ more) last =
    handles h n s.line s.written s.reported s.goes_on s.after × ((s.goes_on ≡ true) ⊎ (more ≡ []))
    × Handled handles s.after (suc n) more last

-- whether the run goes on after the steps
abbrev pub go_on : {H : Type 0} → List (Step H) → Bool
go_on [] = true
go_on (s ∷ more) = s.goes_on && go_on more

-- the lines of the steps, and what is written and reported of them
abbrev pub lines_of : {H : Type 0} → List (Step H) → List (Option (List ℕ))
lines_of [] = []
lines_of (s ∷ more) = s.line ∷ lines_of more

abbrev pub written_of : {H : Type 0} → List (Step H) → List ℕ
written_of [] = []
written_of (s ∷ more) = s.written ++ written_of more

abbrev pub reported_of : {H : Type 0} → List (Step H) → List ℕ
reported_of [] = []
reported_of (s ∷ more) = s.reported ++ reported_of more

-- all lines are given; or, where the handler ended the run, these
abbrev pub Reaches : Bool → Option ℕ → Option (List ℕ) → Option (List ℕ) → List (Option (List ℕ)) → Type 0
Reaches true max unread left given = AllGiven max unread left given
Reaches false max unread left given = LinesGiven max unread left given

-- Each line was handled in order, and what is to be written and reported of them was, and nothing else.
pub record HandlesAll {H : Type 0} (handles : Handles H) (max : Option ℕ) (old new : H)
    (unread left held holds told tells : Option (List ℕ)) (is_all : Bool) : Type 0 where
  pub steps : List (Step H)
  pub handled : Handled handles old 1 steps new
  pub reaches : Reaches is_all max unread left (lines_of steps)
  pub is : is_all ≡ go_on steps
  pub written : Appends held holds (written_of steps)
  pub reported : Appends told tells (reported_of steps)

-- Some first lines were handled in order, and of what is to be written and reported of them a prefix was.
pub record StopsAmongSteps {H : Type 0} (handles : Handles H) (max : Option ℕ) (old : H)
    (unread held holds told tells : Option (List ℕ)) : Type 0 where
  pub steps : List (Step H)
  pub last : H
  pub handled : Handled handles old 1 steps last
  pub first : IfSome unread (λ xs. (more : List (Option (List ℕ))) × (given_lines max xs ≡ lines_of steps ++ more))
  pub written : WrittenPart held holds (written_of steps)
  pub reported : WrittenPart told tells (reported_of steps)

abbrev pub RunsOver : {H : Type 0} → Handles H → Option ℕ → H → H → Option (List ℕ) → Option (List ℕ) → Option (List ℕ) → Option (List ℕ)
    → Option (List ℕ) → Option (List ℕ) → Result Bool Error → Type 0
RunsOver handles max old new unread left held holds told tells (Ok is_all) =
    HandlesAll handles max old new unread left held holds told tells is_all
RunsOver handles max old new unread left held holds told tells (Err e) =
    StopsAmongSteps handles max old unread held holds told tells

-- The line that a handler is given. For a private contract.
abbrev pub given_by : LineRead → List ℕ → Option (List ℕ)
given_by Whole line = Some line
given_by (TooLong m) line = None
given_by End line = None
