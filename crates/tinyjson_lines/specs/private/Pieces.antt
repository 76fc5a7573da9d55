-- The pieces of a line that is read up to a limit. For private contracts.
use Rattle.std.specs.Prelude.{◌≡◌, ◌++◌, ℕ, List, [], ◌∷◌, length, ◌≤◌, ◌≢◌, Option, None, Some, Result, Ok, Err, ⊤}
use Rattle.std.specs.Io.KnownBytes.{Consumes}
use Rattle.std.specs.List.{All}
use Rattle.std.specs.declared.io.Error.{Error}
use Rattle.tinyjson_lines.specs.Lines.{Stops}
use Rattle.tinyjson_lines.specs.Within.{ReadsWithin}
use Rattle.tinyjson_lines.specs.declared.within.LineRead.{LineRead}
use Rattle.tinyjson_lines.specs.declared.within.LineRead.TheVariants.{Whole, End}

-- a part of the next line is read, which is within the limit and before the line feed
pub record IsPart (max : ℕ) (unread left : Option (List ℕ)) (part : List ℕ) : Type 0 where
  pub taken : Consumes unread left part
  pub unended : All (λ x. x ≢ 10) part
  pub within : length part ≤ max

-- A longer part is read, or the line's reading ends so.
abbrev pub TakesPiece : ℕ → Option (List ℕ) → Option (List ℕ) → List ℕ → Result (Option LineRead) Error → Type 0
TakesPiece max unread left line (Ok None) = IsPart max unread left line
TakesPiece max unread left line (Ok (Some r)) = ReadsWithin (Some max) unread left line (Ok r)
TakesPiece max unread left line (Err e) = Stops max unread left line e

-- What was read of the line stays. At the end of the input nothing was.
abbrev pub Extends : List ℕ → List ℕ → Result (Option LineRead) Error → Type 0
Extends old new (Ok (Some End)) = (old ≡ []) × (new ≡ [])
Extends old new (Ok r) = (more : List ℕ) × (new ≡ old ++ more)
Extends old new (Err e) = ⊤

-- what is read at the end of the input, after a part of a line
abbrev pub end_read : List ℕ → LineRead
end_read [] = End
end_read (x ∷ xs) = Whole
