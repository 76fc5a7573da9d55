-- What a line gives, from what was read of it.
use Rattle.std.proofs.Common.{◌≡◌, ℕ, List, Option, Err}
use Rattle.tinyjson.specs.Error.{error_kind}
use Rattle.tinyjson.specs.Events.{TellsText}
use Rattle.tinyjson.specs.JsonParseErrorKind.TheVariants as kind
use Rattle.tinyjson.specs.Tree.{Tree}
use Rattle.tinyjson.specs.declared.parser.error.JsonParseError.{JsonParseError}
use Rattle.json_lines.specs.Lines.{IsRefused}

-- what the parser says of a text that is refused, unless memory ran out
pub told_refused : {E : Type 0} (is : E → Tree → Type 0) (limit : Option ℕ) (xs : List ℕ) (e : JsonParseError)
    → TellsText is limit xs (Err e) → ¬ (error_kind e ≡ kind.OutOfMemory) → IsRefused limit xs e
told_refused is limit xs e h n = (
  record {
    consumed = h.consumed;
    rest = h.rest;
    whole = h.whole;
    answer = (h.answer.0, h.answer.1 n);
    refused = h.refused;
  },
  n,
  h.refused n,
)
