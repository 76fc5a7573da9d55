-- The lines of an input, and runs over them.
use Rattle.std.specs.Prelude.{◌≡◌, ◌≢◌, ◌<◌, ◌⊎◌, length, ℕ, suc, ◌==◌, Bool, true, false, List, [], ◌∷◌, ◌++◌, cond}
use Rattle.std.specs.Prelude.{Option, None, Some, IfSome}
use Rattle.std.specs.Prelude.{Result, Ok, Err, ⊤}
use Rattle.std.specs.Io.BufRead.{strip_last}
use Rattle.std.specs.Io.KnownBytes.{Appends, Consumes, Keeps}
use Rattle.std.specs.IoError.{error_kind}
use Rattle.std.specs.List.{All}
use Rattle.std.specs.declared.io.Error.{Error}
use Rattle.std.specs.declared.io.ErrorKind.TheVariants.{Interrupted}
use Rattle.tinyjson.specs.Characters.{line_feed}
use Rattle.tinyjson.specs.Written.{WrittenPart}

-- puts a byte before the first line
abbrev pub onto_first : ℕ → List (List ℕ) → List (List ℕ)
onto_first b [] = (b ∷ []) ∷ []
onto_first b (line ∷ more) = (b ∷ line) ∷ more

-- the lines of the bytes, each with its line feed, which the last may lack
abbrev pub lines : List ℕ → List (List ℕ)
lines [] = []
lines (b ∷ bs) = cond (b == line_feed) ((b ∷ []) ∷ lines bs) (onto_first b (lines bs))

-- the line without its line feed
abbrev pub content : List ℕ → List ℕ
content line = strip_last line_feed line

-- these lines are read from the input, as far as its bytes are known
abbrev pub LinesRead : Option (List ℕ) → Option (List ℕ) → List (List ℕ) → Type 0
LinesRead None left read = ⊤
LinesRead (Some xs) None read = ⊥
LinesRead (Some xs) (Some ys) read = lines xs ≡ read ++ lines ys

-- these are all the lines, and nothing is left
abbrev pub AllRead : Option (List ℕ) → Option (List ℕ) → List (List ℕ) → Type 0
AllRead unread left read = IfSome unread (λ xs. (lines xs ≡ read) × (left ≡ Some []))

-- ---- errors of the reader

-- the greatest length
abbrev pub usize_max : ℕ
usize_max = 18446744073709551615

-- The bytes that were consumed are in the buffer, and no line feed is among them.
pub record StopsInLine (unread left : Option (List ℕ)) (line : List ℕ) : Type 0 where
  pub taken : Consumes unread left line
  pub unended : All (λ x. x ≢ line_feed) line

-- The next line has more bytes before its line feed than the limit.
abbrev pub BeginsLonger : ℕ → Option (List ℕ) → Type 0
BeginsLonger max unread =
    IfSome unread (λ xs. (line : List ℕ) × (more : List (List ℕ)) × (lines xs ≡ line ∷ more) × (max < length (content line)))

-- The error is no interruption. It came before the end of the next line, or while a longer one was passed over.
pub record Stops (max : ℕ) (unread left : Option (List ℕ)) (line : List ℕ) (e : Error) : Type 0 where
  pub kind : error_kind e ≢ Interrupted
  pub within : StopsInLine unread left line ⊎ BeginsLonger max unread

-- One line is read, or the input is at its end.
abbrev pub ReadsLine : Option (List ℕ) → Option (List ℕ) → List ℕ → Result Bool Error → Type 0
ReadsLine unread left line (Ok true) = LinesRead unread left (line ∷ [])
ReadsLine unread left line (Ok false) = AllRead unread left []
ReadsLine unread left line (Err e) = Stops usize_max unread left line e

-- ---- the results of lines

-- each line has the result at its position
abbrev pub AllGive : {F : Type 0} → (List ℕ → F → Type 0) → List (List ℕ) → List F → Type 0
AllGive gives [] [] = ⊤
AllGive gives (line ∷ more) (f ∷ fs) = gives line f × AllGive gives more fs
AllGive gives _ _ = ⊥

-- the texts for the results of lines, whose first has this number
abbrev pub said : {F : Type 0} → (ℕ → F → List ℕ) → ℕ → List F → List ℕ
said says n [] = []
said says n (f ∷ fs) = says n f ++ said says (suc n) fs

-- Each line was read. In order, its output was written and its message was printed, and nothing else.
pub record AnswersAll {F : Type 0} (gives : List ℕ → F → Type 0) (output telling : ℕ → F → List ℕ)
    (unread left held holds told tells : Option (List ℕ)) (fs : List F) : Type 0 where
  pub read : List (List ℕ)
  pub are : AllGive gives read fs
  pub reaches : AllRead unread left read
  pub written : Appends held holds (said output 1 fs)
  pub told_of : Appends told tells (said telling 1 fs)

-- A prefix was written of the output for some first lines, and of the messages for them.
pub record StopsAmong {F : Type 0} (gives : List ℕ → F → Type 0) (output telling : ℕ → F → List ℕ)
    (unread held holds told tells : Option (List ℕ)) : Type 0 where
  pub read : List (List ℕ)
  pub fs : List F
  pub are : AllGive gives read fs
  pub first : IfSome unread (λ xs. (more : List (List ℕ)) × (lines xs ≡ read ++ more))
  pub written : WrittenPart held holds (said output 1 fs)
  pub told_of : WrittenPart told tells (said telling 1 fs)
