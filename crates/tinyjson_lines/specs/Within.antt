-- Lines that are read up to a limit.
use Rattle.std.specs.Prelude.{◌≡◌, ◌<◌, ◌≤◌, ℕ, List, [], ◌∷◌, ◌++◌, cond, length, map, nat_lt, Option, None, Some, IfSome}
use Rattle.std.specs.Prelude.{Result, Ok, Err, ⊤}
use Rattle.std.specs.declared.io.Error.{Error}
use Rattle.tinyjson_lines.specs.Lines.{content, lines, usize_max, LinesRead, AllRead, Stops}
use Rattle.tinyjson_lines.specs.declared.within.LineRead.{LineRead}
use Rattle.tinyjson_lines.specs.declared.within.LineRead.TheVariants.{Whole, TooLong, End}

-- the line has no more bytes before its line feed than the limit, if there is one
abbrev pub IsWithin : Option ℕ → List ℕ → Type 0
IsWithin max line = IfSome max (λ m. length (content line) ≤ m)

-- the line has more bytes before its line feed than the limit
abbrev pub IsLonger : ℕ → List ℕ → Type 0
IsLonger max line = max < length (content line)

-- the most bytes that a line may have before its line feed
abbrev pub limit_of : Option ℕ → ℕ
limit_of None = usize_max
limit_of (Some max) = max

-- One line is read that is longer than the limit.
abbrev pub PassesOver : ℕ → Option (List ℕ) → Option (List ℕ) → Type 0
PassesOver max unread left = (line : List ℕ) × LinesRead unread left (line ∷ []) × IsLonger max line

-- One line within the limit is read, or a longer one is passed over, or there is none.
abbrev pub ReadsWithin : Option ℕ → Option (List ℕ) → Option (List ℕ) → List ℕ → Result LineRead Error → Type 0
ReadsWithin max unread left line (Ok Whole) = LinesRead unread left (line ∷ []) × IsWithin max line
ReadsWithin max unread left line (Ok (TooLong m)) = (max ≡ Some m) × PassesOver m unread left
ReadsWithin max unread left line (Ok End) = AllRead unread left []
ReadsWithin max unread left line (Err e) = Stops (limit_of max) unread left line e

-- a line as it is given after it was read: itself, or the limit that it exceeds
abbrev pub given_as : LineRead → List ℕ → Result (List ℕ) ℕ
given_as Whole line = Ok line
given_as (TooLong max) line = Err max
given_as End line = Ok line

-- The line is given so.
abbrev pub IsGiven : Option ℕ → List ℕ → Result (List ℕ) ℕ → Type 0
IsGiven max line (Ok xs) = (xs ≡ line) × IsWithin max line
IsGiven max line (Err m) = (max ≡ Some m) × IsLonger m line

-- The next line is given so.
abbrev pub GivesNext : Option ℕ → Option (List ℕ) → Option (List ℕ) → Result (List ℕ) ℕ → Type 0
GivesNext max unread left given = (line : List ℕ) × LinesRead unread left (line ∷ []) × IsGiven max line given

-- ---- the lines of a run

-- a line as it is given: none where it has more bytes before its line feed than the limit, if there is one
abbrev pub given_line : Option ℕ → List ℕ → Option (List ℕ)
given_line None line = Some line
given_line (Some max) line = cond (nat_lt max (length (content line))) None (Some line)

-- the lines of the bytes, as they are given
abbrev pub given_lines : Option ℕ → List ℕ → List (Option (List ℕ))
given_lines max xs = map (given_line max) (lines xs)

-- of the known bytes these lines are given
abbrev pub LinesGiven : Option ℕ → Option (List ℕ) → Option (List ℕ) → List (Option (List ℕ)) → Type 0
LinesGiven max None left given = ⊤
LinesGiven max (Some xs) None given = ⊥
LinesGiven max (Some xs) (Some ys) given = given_lines max xs ≡ given ++ given_lines max ys

-- these lines are all, and nothing is left
abbrev pub AllGiven : Option ℕ → Option (List ℕ) → Option (List ℕ) → List (Option (List ℕ)) → Type 0
AllGiven max unread left given = IfSome unread (λ xs. (given_lines max xs ≡ given) × (left ≡ Some []))
