-- The lines of an input, and what each of them gives.
use Rattle.std.specs.Prelude.{◌≡◌, ℕ, suc, List, [], ◌∷◌, ◌++◌, Option, Some, Result, Ok, Err, ⊤, codes, option_map}
use Rattle.std.specs.Str.{IsUtf8, chars}
use Rattle.tinyjson.specs.Grammar.{IsText}
use Rattle.tinyjson.specs.Tree.{Tree}
use Rattle.tinyjson_cli.specs.Refusals.{refusal_line}
use Rattle.tinyjson_lines.specs.Line.{line_of}
-- the characters are no text, and this is the parser's error; the text of a line is rejected for this cause
pub use Rattle.tinyjson_lines.specs.Checked.{IsRefused, IsRejected}
-- the lines of the bytes, and a line without its line feed
pub use Rattle.tinyjson_lines.specs.Lines.{lines, onto_first, content}
-- the line has no more bytes than the limit; it has more
pub use Rattle.tinyjson_lines.specs.Within.{IsWithin, IsLonger}
use Rattle.json_lines.specs.declared.lines.Options.{Options}
use Rattle.json_lines.specs.declared.lines.Outcome.{Outcome}
use Rattle.json_lines.specs.declared.lines.Outcome.TheVariants.{AllWritten, SomeRefused}
use Rattle.tinyjson_lines.specs.declared.refusal.Cause.{Cause}
use Rattle.tinyjson_lines.specs.declared.refusal.Cause.TheVariants.{TooLong}

-- what a line gives: the tree of its text, or the cause why it is rejected
abbrev pub Fate : Type 0
Fate = Result Tree Cause

-- The text of the line gives this, under the limit of nesting.
abbrev pub TextGives : Option ℕ → List ℕ → Fate → Type 0
TextGives limit line (Ok t) = IsUtf8 (content line) × IsText limit (chars (content line)) t
TextGives limit line (Err c) = IsRejected limit line c

-- The line gives this, under the limits of nesting and of its length.
abbrev pub HasFate : Option ℕ → Option ℕ → List ℕ → Fate → Type 0
HasFate limit max line (Err (TooLong m)) = (max ≡ Some m) × IsLonger m line
HasFate limit max line f = IsWithin max line × TextGives limit line f

-- the lines give these, in order
abbrev pub HaveFates : Option ℕ → Option ℕ → List (List ℕ) → List Fate → Type 0
HaveFates limit max [] [] = ⊤
HaveFates limit max (line ∷ more) (f ∷ fs) = HasFate limit max line f × HaveFates limit max more fs
HaveFates limit max _ _ = ⊥

-- what is written for a line: its normal form, or nothing
abbrev pub output_of : Fate → List ℕ
output_of (Ok t) = line_of t
output_of (Err c) = []

abbrev pub outputs_of : List Fate → List ℕ
outputs_of [] = []
outputs_of (f ∷ fs) = output_of f ++ outputs_of fs

-- the message about the line of this number: none, or why it is rejected
abbrev pub telling_of : Options → ℕ → Fate → List ℕ
telling_of o n (Ok t) = []
telling_of o n (Err c) = refusal_line (codes "json_lines") (option_map (λ f. f.now) o.file) record { number = n; cause = c }

-- the messages about lines that are counted from this number
abbrev pub tellings_of : Options → ℕ → List Fate → List ℕ
tellings_of o n [] = []
tellings_of o n (f ∷ fs) = telling_of o n f ++ tellings_of o (suc n) fs

-- whether each is written
abbrev pub outcome_of : List Fate → Outcome
outcome_of [] = AllWritten
outcome_of (Ok t ∷ fs) = outcome_of fs
outcome_of (Err c ∷ fs) = SomeRefused
