-- What is answered for the value of a text.
use Rattle.std.specs.Prelude.{◌≡◌, ℕ, List, Option, Result, Ok, Err, ◌⊎◌, length, encode_utf8_all}
use Rattle.tinyjson.specs.Error.{error_kind}
use Rattle.tinyjson.specs.Grammar.{IsText, IsAccepted}
use Rattle.tinyjson.specs.JsonParseErrorKind.TheVariants as kind
use Rattle.tinyjson.specs.Parser.{ParsesText}
use Rattle.tinyjson.specs.Tree.{Tree}
use Rattle.tinyjson_cli.specs.declared.texts.NoAnswer.{NoAnswer}
use Rattle.tinyjson_cli.specs.declared.texts.NoAnswer.TheVariants.{Refused}
use Rattle.tinyjson_cli.specs.declared.values.Values.{Values}
use Rattle.tinyjson_lines.specs.declared.refusal.Cause.TheVariants.{NotJson}

-- The characters are no JSON text, and this is the parser's error.
abbrev pub GivesRefusal : Option ℕ → List ℕ → Result (List ℕ) NoAnswer → Type 0
GivesRefusal limit text (Err (Refused (NotJson e))) =
    ParsesText limit text (Err e) × ¬ (error_kind e ≡ kind.OutOfMemory) × ¬ IsAccepted limit text
GivesRefusal limit text f = ⊥

-- The answer for the tree of the text, given how many bytes that has; or it is no JSON text.
abbrev pub GivesOfText : (ℕ → Tree → Result (List ℕ) NoAnswer → Type 0) → Option ℕ → List ℕ → Result (List ℕ) NoAnswer → Type 0
GivesOfText gives limit text f =
    ((t : Tree) × IsText limit text t × gives (length (encode_utf8_all text)) t f) ⊎ GivesRefusal limit text f

-- all but the memory
abbrev pub IsSameTool : {T : Type 0} → Values T → Values T → Type 0
IsSameTool old new = (new.tool ≡ old.tool) × (new.depth_limit ≡ old.depth_limit)
