-- The form of a text, and what is printed.
use Rattle.std.specs.Prelude.{◌≡◌, ◌≢◌, ℕ, Bool, true, false, List, [], ◌∷◌, ◌++◌, Option, None, Some, Result, Ok, Err}
use Rattle.std.specs.Prelude.{codes, encode_utf8_all, unwrap_or}
use Rattle.std.specs.Str.{chars}
use Rattle.tinyjson.specs.Characters.{line_feed}
use Rattle.tinyjson.specs.Grammar.{IsText, IsAccepted}
use Rattle.tinyjson.specs.Parser.{ParsesText}
use Rattle.tinyjson.specs.Text.{text}
use Rattle.tinyjson.specs.Tree.{Tree}
use Rattle.tinyjson_cli.specs.Shown.{shown}
use Rattle.tinyjson_cli.specs.declared.status.Status.{Status}
use Rattle.tinyjson_cli.specs.declared.status.Status.TheVariants as status
use Rattle.tinyjson_cli.specs.declared.texts.NoAnswer.{NoAnswer}
use Rattle.tinyjson_cli.specs.declared.texts.NoAnswer.TheVariants as no
use Rattle.tinyjson_lines.specs.declared.refusal.Cause.TheVariants.{NotJson}
use Rattle.json_format.specs.declared.form.Formatter.{Formatter}

-- the bytes of a tree's text with this indent, and a line feed
abbrev pub form_of : List ℕ → Tree → List ℕ
form_of indent t = encode_utf8_all (text (Some indent) 0 t) ++ line_feed ∷ []

-- the form of the characters' tree
abbrev pub IsForm : List ℕ → List ℕ → List ℕ → Type 0
IsForm indent xs bytes = (t : Tree) × IsText None xs t × (bytes ≡ form_of indent t)

-- The characters are no JSON text, and this is the parser's error.
abbrev pub IsNoForm : List ℕ → NoAnswer → Type 0
IsNoForm xs (no.Refused (NotJson e)) = ParsesText None xs (Err e) × ¬ IsAccepted None xs
IsNoForm xs _ = ⊥

-- the name of an input, as it is printed
abbrev pub name_line : Option (List ℕ) → List ℕ
name_line file = shown (chars (unwrap_or file (codes "-"))) ++ line_feed ∷ []

-- Of a check: the text is in form, and nothing is printed; or it is not, and the name is.
abbrev pub IsChecked : List ℕ → Option (List ℕ) → List ℕ → Status → List ℕ → Type 0
IsChecked indent file xs status.Done bytes = IsForm indent xs (encode_utf8_all xs) × (bytes ≡ [])
IsChecked indent file xs status.No bytes =
    (form : List ℕ) × IsForm indent xs form × (form ≢ encode_utf8_all xs) × (bytes ≡ name_line file)
IsChecked indent file xs s bytes = ⊥

-- The form is printed, or a text is checked; or it is no JSON text.
abbrev pub GivesFormatted : (is_check : Bool) → List ℕ → Option (List ℕ) → List ℕ → Result (Status × List ℕ) NoAnswer → Type 0
GivesFormatted false indent file xs (Ok a) = (a.0 ≡ status.Done) × IsForm indent xs a.1
GivesFormatted true indent file xs (Ok a) = IsChecked indent file xs a.0 a.1
GivesFormatted is_check indent file xs (Err why) = IsNoForm xs why

-- A program answers so, and stays as it was. For private contracts.
abbrev pub Formats : Formatter → Option (List ℕ) → List ℕ → Result (Status × List ℕ) NoAnswer → Formatter → Type 0
Formats a file xs f b = GivesFormatted a.is_check (chars a.indent.now) file xs f × (b ≡ a)
