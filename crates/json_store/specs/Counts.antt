-- What is printed for a text, and how the counts change.
use Rattle.std.specs.Fmt.{decimal}
use Rattle.std.specs.Prelude.{◌≡◌, ℕ, List, ◌++◌, None, Result, Ok, Err, codes}
use Rattle.tinyjson.specs.Grammar.{IsText, IsAccepted}
use Rattle.tinyjson.specs.Parser.{ParsesText}
use Rattle.tinyjson.specs.Tree.{Tree}
use Rattle.tinyjson_cli.specs.declared.status.Status.{Status}
use Rattle.tinyjson_cli.specs.declared.status.Status.TheVariants.{Done}
use Rattle.tinyjson_cli.specs.declared.texts.NoAnswer.{NoAnswer}
use Rattle.tinyjson_cli.specs.declared.texts.NoAnswer.TheVariants.{Refused}
use Rattle.tinyjson_lines.specs.Line.{line_of}
use Rattle.tinyjson_lines.specs.declared.refusal.Cause.TheVariants.{NotJson}
use Rattle.json_store.specs.Store.{CountsOnce, CountsTheSame, count_of}
use Rattle.json_store.specs.declared.store.Store.{Store}

-- a count, and a space
abbrev pub count_text : ℕ → List ℕ
count_text n = decimal n ++ codes " "

-- The value of the text is counted once more, and its count and its normal form are printed; or it is no JSON text, and no
-- count changes.
abbrev pub GivesCount : Store → List ℕ → Result (Status × List ℕ) NoAnswer → Store → Type 0
GivesCount old text (Ok a) new =
    (a.0 ≡ Done) × (t : Tree) × IsText None text t × CountsOnce old t new × (a.1 ≡ count_text (count_of new t) ++ line_of t)
GivesCount old text (Err (Refused (NotJson e))) new =
    ParsesText None text (Err e) × ¬ IsAccepted None text × CountsTheSame old new
GivesCount old text (Err why) new = ⊥
