-- The verdict on a text is that on its value.
use Rattle.std.proofs.Common.{◌≡◌, ℕ, List, Option, Result, Ok, Err, sym, subst}
use Rattle.std.specs.Prelude.{IfOk}
use Rattle.tinyjson.specs.Error.{error_kind}
use Rattle.tinyjson.specs.Events.{TellsText}
use Rattle.tinyjson.specs.Grammar.{IsText}
use Rattle.tinyjson.specs.JsonParseErrorKind.TheVariants as kind
use Rattle.tinyjson.specs.Tree.{Tree}
use Rattle.tinyjson.specs.declared.parser.error.JsonParseError.{JsonParseError}
use Rattle.tinyjson_document.specs.Document.{HasTree, document_tree}
use Rattle.tinyjson_document.specs.declared.document.Document.{Document}
use Rattle.tinyjson_schema.specs.Valid.{Root}
use Rattle.tinyjson_schema_report.specs.Verdicts.{TextGives, ValueGives, IsNoText, depth_limit}
use Rattle.tinyjson_schema_report.specs.declared.verdict.Cause.TheVariants as cause
use Rattle.tinyjson_schema_report.specs.declared.verdict.Verdict.{Verdict}
use Rattle.tinyjson_schema_report.specs.declared.verdict.Verdict.TheVariants.{Valid, Invalid, Refused}

-- ---- texts that are read into documents

pub text_read : (limit : Option ℕ) (xs : List ℕ) (d : Document) → TellsText HasTree limit xs (Ok d) → IsText limit xs (document_tree d)
text_read limit xs d h = subst (IsText limit xs) (sym h.answer.3) h.answer.2

pub no_text : (xs : List ℕ) (e : JsonParseError) → TellsText HasTree depth_limit xs (Err e) → ¬ (error_kind e ≡ kind.OutOfMemory)
    → IsNoText xs e
no_text xs e h n = (
  record { consumed = h.consumed; rest = h.rest; whole = h.whole; answer = (h.answer.0, h.answer.1 n); refused = h.refused },
  n,
  h.refused n,
)

text_gives : (s : Root) (xs : List ℕ) (t : Tree) (v : Verdict) → IsText depth_limit xs t → ValueGives xs s t v → TextGives s xs v
text_gives s xs t Valid i h = (t, i, h)
text_gives s xs t (Invalid l) i h = (t, i, h)
text_gives s xs t (Refused cause.NotUtf8) i h = absurd h
text_gives s xs t (Refused (cause.NotJson e)) i h = absurd h
text_gives s xs t (Refused cause.TooDeep) i h = (t, i, h)
text_gives s xs t (Refused cause.TooMuch) i h = (t, i, h)
text_gives s xs t (Refused (cause.TooLong m)) i h = absurd h

pub gives_of_value : {E : Type 0} (s : Root) (xs : List ℕ) (t : Tree) (r : Result Verdict E) → IsText depth_limit xs t
    → IfOk r (ValueGives xs s t) → IfOk r (TextGives s xs)
gives_of_value s xs t (Ok v) i h = text_gives s xs t v i h
gives_of_value s xs t (Err e) i h = tt
