-- A run of a program over inputs.
use Rattle.std.specs.Prelude.{◌≡◌, ℕ, Bool, true, false, ◌&&◌, List, [], ◌∷◌, ◌++◌, Option, None, Some, Result, Ok, Err, ◌⊎◌, cond, max, not}
use Rattle.std.specs.Io.KnownBytes.{Appends, Keeps}
use Rattle.std.specs.Prelude.{IsErrAnd}
use Rattle.std.specs.Str.{bytes_eq}
use Rattle.std.specs.declared.io.Error.{Error}
use Rattle.tinyjson.specs.Written.{WrittenPart}
use Rattle.tinyjson_cli.specs.Changing.{failure_in_place, is_last}
use Rattle.tinyjson_cli.specs.Ending.{IsOfInput}
use Rattle.tinyjson_cli.specs.Failures.{failure_status, goes_on, status_code}
use Rattle.tinyjson_cli.specs.Texts.{failure_of}
use Rattle.tinyjson_cli.specs.Tools.{Meaning, Source}
use Rattle.tinyjson_cli.specs.declared.failure.Failure.{Failure}
use Rattle.tinyjson_cli.specs.declared.status.Status.{Status}
use Rattle.tinyjson_cli.specs.declared.status.Status.TheVariants.{Failed}
use Rattle.tinyjson_cli.specs.declared.texts.NoAnswer.{NoAnswer}

-- the greatest of a number and of statuses
abbrev pub greatest : ℕ → List Status → ℕ
greatest n [] = n
greatest n (s ∷ ss) = greatest (max n (status_code s)) ss

-- the file that an argument names: none for `-`, standard input
abbrev pub input_file : List ℕ → Option (List ℕ)
input_file name = cond (bytes_eq name (45 ∷ [])) None (Some name)

-- a whole input
abbrev pub whole : Option (List ℕ) → Source
whole file = record { file = file; line = None }

-- ---- what becomes of inputs

-- the status and the bytes of an answer, or the failure
abbrev pub Outcome : Type 0
Outcome = Result (Status × List ℕ) Failure

abbrev pub outcome_status : Outcome → Status
outcome_status (Ok a) = a.0
outcome_status (Err f) = failure_status f

abbrev pub outcome_bytes : Outcome → List ℕ
outcome_bytes (Ok a) = a.1
outcome_bytes (Err f) = []

-- The text of the file has this answer; or it can't be read; or it has none, for a reason of which this is the failure.
abbrev pub Becomes : {T : Type 0} → Meaning T → T → Option (List ℕ) → Outcome → T → Type 0
Becomes gives old file (Ok a) new = (text : List ℕ) × gives old (whole file) text (Ok a) new
Becomes gives old file (Err f) new =
    (IsOfInput f × (new ≡ old))
    ⊎ ((text : List ℕ) × (why : NoAnswer) × gives old (whole file) text (Err why) new × (f ≡ failure_of why))

-- A write failed, or memory ran out: nothing was written, or a part of these bytes, which answer the text of the file.
abbrev pub Unwritten : {T : Type 0} → Meaning T → T → Option (List ℕ) → List ℕ → Type 0
Unwritten {T} gives old file bytes =
    (bytes ≡ []) ⊎ ((text : List ℕ) × (s : Status) × (after : T) × gives old (whole file) text (Ok (s, bytes)) after)

-- One input has an outcome, and its bytes are written. Nothing is gathered then that is not flushed.
abbrev pub AnswersFile : {T : Type 0} → Meaning T → T → T → Option (List ℕ) → Option (List ℕ) → Option (List ℕ) → List ℕ
    → Result Status Failure → Type 0
AnswersFile gives old new file held holds gathered (Ok s) =
    (bytes : List ℕ) × Becomes gives old file (Ok (s, bytes)) new × Appends held holds bytes × (gathered ≡ [])
AnswersFile gives old new file held holds gathered (Err f) =
    (Becomes gives old file (Err f) new × Keeps held holds × (gathered ≡ []))
    ⊎ ((is_last f ≡ true) × (bytes : List ℕ) × Unwritten gives old file bytes × WrittenPart held holds bytes)

-- ---- a run over files

pub record Step (T : Type 0) : Type 0 where
  pub file : Option (List ℕ)
  pub outcome : Outcome
  pub after : T

abbrev pub files_of : {T : Type 0} → List (Step T) → List (Option (List ℕ))
files_of [] = []
files_of (s ∷ more) = s.file ∷ files_of more

abbrev pub statuses_of : {T : Type 0} → List (Step T) → List Status
statuses_of [] = []
statuses_of (s ∷ more) = outcome_status s.outcome ∷ statuses_of more

abbrev pub bytes_of : {T : Type 0} → List (Step T) → List ℕ
bytes_of [] = []
bytes_of (s ∷ more) = outcome_bytes s.outcome ++ bytes_of more

-- whether the run goes on after an outcome, and after steps
abbrev pub goes_after : (Failure → Bool) → Outcome → Bool
goes_after goes (Ok a) = true
goes_after goes (Err f) = goes f

abbrev pub go_on : {T : Type 0} → (Failure → Bool) → List (Step T) → Bool
go_on goes [] = true
go_on goes (s ∷ more) = goes_after goes s.outcome && go_on goes more

-- the status of an input, and whether the run goes on after it; for private contracts
abbrev pub status_of : Result Status Failure → Status
status_of (Ok s) = s
status_of (Err f) = failure_status f

abbrev pub goes_of : (Failure → Bool) → Result Status Failure → Bool
goes_of goes (Ok s) = true
goes_of goes (Err f) = goes f

-- what becomes of the program and an input
abbrev pub Becoming : Type 0 → Type 1
Becoming T = T → Option (List ℕ) → Outcome → T → Type 0

-- The program does these steps, and is this in the end: only the last may end the run.
abbrev pub Handled : {T : Type 0} → Becoming T → (Failure → Bool) → T → List (Step T) → T → Type 0
Handled becomes goes t [] last = t ≡ last
Handled becomes goes t (s ∷ more) last =
    becomes t s.file s.outcome s.after × ((goes_after goes s.outcome ≡ true) ⊎ (more ≡ [])) × Handled becomes goes s.after more last

-- The steps are those of the files, up to one whose failure ends the run. The status is the greatest of theirs.
pub record Run {T : Type 0} (becomes : Becoming T) (goes : Failure → Bool) (files : List (Option (List ℕ))) (old new : T)
    (steps : List (Step T)) (status : Status) : Type 0 where
  pub handled : Handled becomes goes old steps new
  pub more : List (Option (List ℕ))
  pub first : files ≡ files_of steps ++ more
  pub all : go_on goes steps ≡ true → more ≡ []
  pub is : status_code status ≡ greatest 0 (statuses_of steps)

-- The bytes of the answers were written in order and nothing else, and all is flushed.
pub record AnswersAll {T : Type 0} (gives : Meaning T) (files : List (Option (List ℕ))) (old new : T)
    (held holds : Option (List ℕ)) (gathered : List ℕ) (status : Status) : Type 0 where
  pub steps : List (Step T)
  pub run : Run (Becomes gives) goes_on files old new steps status
  pub written : Appends held holds (bytes_of steps)
  pub flushed : gathered ≡ []

-- Of the answer for a file, of these bytes, not all was written, and all before was. The status is `Failed`.
pub record StopsAmongFiles {T : Type 0} (gives : Meaning T) (files : List (Option (List ℕ))) (old : T)
    (held holds : Option (List ℕ)) (status : Status) : Type 0 where
  pub steps : List (Step T)
  pub last : T
  pub handled : Handled (Becomes gives) goes_on old steps last
  pub file : Option (List ℕ)
  pub more : List (Option (List ℕ))
  pub first : files ≡ files_of steps ++ file ∷ more
  pub bytes : List ℕ
  pub unwritten : Unwritten gives last file bytes
  pub written : WrittenPart held holds (bytes_of steps ++ bytes)
  pub is : status ≡ Failed

abbrev pub RunsFiles : {T : Type 0} → Meaning T → List (Option (List ℕ)) → T → T → Option (List ℕ) → Option (List ℕ) → List ℕ → Status
    → Type 0
RunsFiles gives files old new held holds gathered status =
    AnswersAll gives files old new held holds gathered status ⊎ StopsAmongFiles gives files old held holds status

-- ---- files in place

-- The text of the file has this answer, which the file has now; or there is a failure: it can't be read, or has no answer, or
-- memory ran out, or a write failed.
abbrev pub BecomesInPlace : {T : Type 0} → Meaning T → T → Option (List ℕ) → Outcome → T → Type 0
BecomesInPlace gives old file (Ok a) new = (text : List ℕ) × gives old (whole file) text (Ok a) new
BecomesInPlace gives old file (Err f) new =
    (IsOfInput f × (new ≡ old))
    ⊎ (((text : List ℕ) × (why : NoAnswer) × gives old (whole file) text (Err why) new × (f ≡ failure_in_place why))
    ⊎ (failure_status f ≡ Failed))

-- The same without the bytes.
abbrev pub ReplacesFile : {T : Type 0} → Meaning T → T → T → Option (List ℕ) → Result Status Failure → Type 0
ReplacesFile gives old new file (Ok s) = (bytes : List ℕ) × BecomesInPlace gives old file (Ok (s, bytes)) new
ReplacesFile gives old new file (Err f) = BecomesInPlace gives old file (Err f) new

-- whether other files are changed after a failure
abbrev pub changes_others : Failure → Bool
changes_others f = not (is_last f)

abbrev pub RunsInPlace : {T : Type 0} → Meaning T → List (Option (List ℕ)) → T → T → Status → Type 0
RunsInPlace {T} gives files old new status =
    (steps : List (Step T)) × Run (BecomesInPlace gives) changes_others files old new steps status

-- How a text ends, of which this was returned, after the output was flushed. For a private contract.
abbrev pub Finishes : Result (Result Status NoAnswer) Error → List ℕ → Result Status Failure → Type 0
Finishes (Ok (Ok s)) gathered result = ((result ≡ Ok s) × (gathered ≡ [])) ⊎ IsErrAnd result (λ f. is_last f ≡ true)
Finishes (Ok (Err why)) gathered result =
    ((result ≡ Err (failure_of why)) × (gathered ≡ [])) ⊎ IsErrAnd result (λ f. is_last f ≡ true)
Finishes (Err e) gathered result = IsErrAnd result (λ f. is_last f ≡ true)
