-- The beginnings of lines that are checked. For private contracts.
use Rattle.std.specs.IoError.{error_kind}
use Rattle.std.specs.Prelude.{◌≡◌, ◌≢◌, ℕ, Bool, true, false, List, [], ◌∷◌, ◌++◌, Option, Result, Ok, Err}
use Rattle.std.specs.Str.{IsUtf8, chars}
use Rattle.std.specs.declared.io.Error.{Error}
use Rattle.std.specs.declared.io.ErrorKind.TheVariants.{Interrupted}
use Rattle.tinyjson_lines.specs.Checked.{IsRefused}
use Rattle.tinyjson_lines.specs.Lines.{content, LinesRead}
pub use Rattle.tinyjson_lines.specs.Lines.{usize_max}
use Rattle.tinyjson_lines.specs.declared.refusal.Cause.{Cause}
use Rattle.tinyjson_lines.specs.declared.refusal.Cause.TheVariants.{NotUtf8, NotJson, TooLong}

-- no text in UTF-8 begins so
abbrev pub IsNoUtf8 : List ℕ → Type 0
IsNoUtf8 part = (rest : List ℕ) → ¬ IsUtf8 (part ++ rest)

-- the part is a text, and other bytes
abbrev pub IsCutAfter : List ℕ → List ℕ → Type 0
IsCutAfter text part = IsUtf8 text × (rest : List ℕ) × (part ≡ text ++ rest)

-- Each line is rejected for this cause whose text begins with the part, if it is UTF-8.
abbrev pub Rejects : Option ℕ → List ℕ → Cause → Type 0
Rejects limit part NotUtf8 = IsNoUtf8 part
Rejects limit part (NotJson e) = (rest : List ℕ) → IsRefused limit (chars (part ++ rest)) e
Rejects limit part (TooLong m) = ⊥

-- whether these bytes are UTF-8
abbrev pub TellsUtf8 : List ℕ → Bool → Type 0
TellsUtf8 text true = IsUtf8 text
TellsUtf8 text false = ¬ IsUtf8 text

-- A line is read that begins with the part.
abbrev pub PassesOver : Option (List ℕ) → Option (List ℕ) → List ℕ → Result Bool Error → Type 0
PassesOver unread left part (Ok b) =
    (line rest : List ℕ) × LinesRead unread left (line ∷ []) × (content line ≡ part ++ rest) × TellsUtf8 (part ++ rest) b
PassesOver unread left part (Err e) = error_kind e ≢ Interrupted
