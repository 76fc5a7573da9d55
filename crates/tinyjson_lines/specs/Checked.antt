-- Lines that are checked while they are read.
use Rattle.std.specs.IoError.{error_kind as io_kind}
use Rattle.std.specs.Prelude.{◌≡◌, ◌≢◌, ◌⊎◌, ℕ, List, [], ◌∷◌, Option, IfSome, Result, Ok, Err}
use Rattle.std.specs.Str.{IsUtf8, chars}
use Rattle.std.specs.declared.io.Error.{Error}
use Rattle.std.specs.declared.io.ErrorKind.TheVariants.{Interrupted}
use Rattle.tinyjson.specs.Error.{error_kind}
use Rattle.tinyjson.specs.Grammar.{IsAccepted}
use Rattle.tinyjson.specs.JsonParseErrorKind.TheVariants as kind
use Rattle.tinyjson.specs.Parser.{ParsesText}
use Rattle.tinyjson.specs.declared.parser.error.JsonParseError.{JsonParseError}
use Rattle.tinyjson_lines.specs.Lines.{content, lines, usize_max, LinesRead, AllRead, StopsInLine, BeginsLonger}
use Rattle.tinyjson_lines.specs.declared.checked.CheckedRead.{CheckedRead}
use Rattle.tinyjson_lines.specs.declared.checked.CheckedRead.TheVariants.{Whole, Rejected, End}
use Rattle.tinyjson_lines.specs.declared.refusal.Cause.{Cause}
use Rattle.tinyjson_lines.specs.declared.refusal.Cause.TheVariants.{NotUtf8, NotJson, TooLong}

-- the characters are no text, and this is the parser's error
abbrev pub IsRefused : Option ℕ → List ℕ → JsonParseError → Type 0
IsRefused limit xs e = ParsesText limit xs (Err e) × ¬ (error_kind e ≡ kind.OutOfMemory) × ¬ IsAccepted limit xs

-- The text of the line is rejected for this cause, under the limit of nesting.
abbrev pub IsRejected : Option ℕ → List ℕ → Cause → Type 0
IsRejected limit line NotUtf8 = ¬ IsUtf8 (content line)
IsRejected limit line (NotJson e) = IsUtf8 (content line) × IsRefused limit (chars (content line)) e
IsRejected limit line (TooLong m) = ⊥

-- One line is read that is rejected for this cause.
abbrev pub RejectsNext : Option ℕ → Option (List ℕ) → Option (List ℕ) → Cause → Type 0
RejectsNext limit unread left c = (line : List ℕ) × LinesRead unread left (line ∷ []) × IsRejected limit line c

-- The next line is no text, under the limit of nesting.
abbrev pub BeginsRejected : Option ℕ → Option (List ℕ) → Type 0
BeginsRejected limit unread = IfSome unread (λ xs. (line : List ℕ) × (more : List (List ℕ)) × (lines xs ≡ line ∷ more)
    × (IsUtf8 (content line) → ¬ IsAccepted limit (chars (content line))))

-- The error is no interruption. It came before the end of the next line, or while one was passed over that is rejected, or that
-- is longer than a buffer can be.
pub record StopsChecked (limit : Option ℕ) (unread left : Option (List ℕ)) (line : List ℕ) (e : Error) : Type 0 where
  pub kind : io_kind e ≢ Interrupted
  pub within : StopsInLine unread left line ⊎ (BeginsLonger usize_max unread ⊎ BeginsRejected limit unread)

-- One line is read, or one that is rejected is passed over, or there is none.
abbrev pub ReadsChecked : Option ℕ → Option (List ℕ) → Option (List ℕ) → List ℕ → Result CheckedRead Error → Type 0
ReadsChecked limit unread left line (Ok Whole) = LinesRead unread left (line ∷ [])
ReadsChecked limit unread left line (Ok (Rejected c)) = RejectsNext limit unread left c
ReadsChecked limit unread left line (Ok End) = AllRead unread left []
ReadsChecked limit unread left line (Err e) = StopsChecked limit unread left line e

-- a line as it is given after it was read: itself, or the cause for which it is rejected
abbrev pub checked_as : CheckedRead → List ℕ → Result (List ℕ) Cause
checked_as Whole line = Ok line
checked_as (Rejected c) line = Err c
checked_as End line = Ok line
