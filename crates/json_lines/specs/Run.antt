-- What a run does.
use Rattle.std.specs.Prelude.{◌≡◌, ℕ, Bool, false, List, [], ◌∷◌, ◌++◌, Option, None, Some, IfSome, Result, Ok, Err, ◌⊎◌, ⊤}
use Rattle.std.specs.Io.KnownBytes.{Appends, Keeps}
use Rattle.std.specs.declared.io.Error.{Error}
use Rattle.tinyjson.specs.Tree.{Tree}
use Rattle.tinyjson.specs.Written.{WrittenPart}
use Rattle.tinyjson_lines.specs.Line.{line_of}
-- of the known bytes these lines are read; these are all, and nothing is left
pub use Rattle.tinyjson_lines.specs.Lines.{LinesRead, AllRead}
use Rattle.json_lines.specs.Lines.{lines, Fate, IsWithin, TextGives, HasFate, HaveFates, output_of, outputs_of, telling_of, tellings_of}
use Rattle.json_lines.specs.Lines.{outcome_of}
use Rattle.json_lines.specs.declared.lines.Options.{Options}
use Rattle.json_lines.specs.declared.lines.Outcome.{Outcome}
use Rattle.json_lines.specs.declared.lines.Outcome.TheVariants.{AllWritten, SomeRefused}
use Rattle.tinyjson_lines.specs.declared.checked.CheckedRead.{CheckedRead}
use Rattle.tinyjson_lines.specs.declared.checked.CheckedRead.TheVariants.{Whole, Rejected, End}
use Rattle.tinyjson_lines.specs.declared.refusal.Cause.{Cause}

-- only the last is rejected
abbrev pub EndsRefused : List Fate → Type 0
EndsRefused fates = (before : List Fate) × (c : Cause) × (fates ≡ before ++ Err c ∷ []) × (outcome_of before ≡ AllWritten)

-- All lines are read; or, if the run does not go on after a line that is rejected, those up to the first of them.
abbrev pub Reaches : Bool → Option (List ℕ) → Option (List ℕ) → List (List ℕ) → List Fate → Outcome → Type 0
Reaches false unread left read fates SomeRefused = LinesRead unread left read × EndsRefused fates
Reaches goes_on unread left read fates outcome = AllRead unread left read

-- For each line that is read its normal form was written or its message, in order, and nothing else.
pub record AnswersLines (options : Options) (unread left held holds told tells : Option (List ℕ)) (outcome : Outcome) : Type 0 where
  pub read : List (List ℕ)
  pub fates : List Fate
  pub are : HaveFates options.limit options.max_line read fates
  pub reaches : Reaches options.goes_on unread left read fates outcome
  pub written : Appends held holds (outputs_of fates)
  pub telling : Appends told tells (tellings_of options 1 fates)
  pub is : outcome ≡ outcome_of fates

-- A prefix was written of the output for some first lines, and of the messages about them.
pub record StopsAmongLines (options : Options) (unread held holds told tells : Option (List ℕ)) : Type 0 where
  pub read : List (List ℕ)
  pub fates : List Fate
  pub are : HaveFates options.limit options.max_line read fates
  pub first : IfSome unread (λ xs. (more : List (List ℕ)) × (lines xs ≡ read ++ more))
  pub written : WrittenPart held holds (outputs_of fates)
  pub telling : WrittenPart told tells (tellings_of options 1 fates)

-- The next line is read, which is within the limit of length; or one that is rejected for this cause is passed over; or there
-- is none.
abbrev pub ReadsNext : Option ℕ → Option ℕ → Option (List ℕ) → Option (List ℕ) → List ℕ → Result CheckedRead Error → Type 0
ReadsNext limit max unread left line (Ok Whole) = LinesRead unread left (line ∷ []) × IsWithin max line
ReadsNext limit max unread left line (Ok (Rejected c)) =
    (passed : List ℕ) × LinesRead unread left (passed ∷ []) × HasFate limit max passed (Err c)
ReadsNext limit max unread left line (Ok End) = AllRead unread left []
ReadsNext limit max unread left line (Err e) = ⊤

-- A line is given: itself, or the cause for which it is rejected.
abbrev pub IsGiven : Option ℕ → Option ℕ → List ℕ → Result (List ℕ) Cause → Type 0
IsGiven limit max line (Ok xs) = (xs ≡ line) × IsWithin max line
IsGiven limit max line (Err c) = HasFate limit max line (Err c)

-- what the input had and has, the output held and holds, and standard error held and holds
abbrev pub Runs : Options → Option (List ℕ) → Option (List ℕ) → Option (List ℕ) → Option (List ℕ) → Option (List ℕ) → Option (List ℕ)
    → Result Outcome Error → Type 0
Runs options unread left held holds told tells (Ok outcome) = AnswersLines options unread left held holds told tells outcome
Runs options unread left held holds told tells (Err e) = StopsAmongLines options unread held holds told tells

-- the same for one line
abbrev pub Handles : Options → ℕ → List ℕ → Option (List ℕ) → Option (List ℕ) → Option (List ℕ) → Option (List ℕ)
    → Result Outcome Error → Type 0
Handles options n line held holds told tells (Ok outcome) =
    (f : Fate) × HasFate options.limit options.max_line line f × (outcome ≡ outcome_of (f ∷ []))
    × Appends held holds (output_of f) × Appends told tells (telling_of options n f)
Handles options n line held holds told tells (Err e) =
    (Keeps held holds × Keeps told tells)
    ⊎ ((f : Fate) × HasFate options.limit options.max_line line f × WrittenPart held holds (output_of f)
    × WrittenPart told tells (telling_of options n f))

-- the same for its output, of a line that gives one of these
abbrev pub Writes : (Fate → Type 0) → Option (List ℕ) → Option (List ℕ) → Result (Option Cause) Error → Type 0
Writes Gives held holds (Ok None) = (t : Tree) × Gives (Ok t) × Appends held holds (line_of t)
Writes Gives held holds (Ok (Some c)) = Gives (Err c) × Keeps held holds
Writes Gives held holds (Err e) = Keeps held holds ⊎ ((t : Tree) × Gives (Ok t) × WrittenPart held holds (line_of t))

-- of a line that is within the limit of length, and of any line
abbrev pub WritesLine : Option ℕ → List ℕ → Option (List ℕ) → Option (List ℕ) → Result (Option Cause) Error → Type 0
WritesLine limit line = Writes (TextGives limit line)

abbrev pub WritesGiven : Option ℕ → Option ℕ → List ℕ → Option (List ℕ) → Option (List ℕ) → Result (Option Cause) Error → Type 0
WritesGiven limit max line = Writes (HasFate limit max line)
