-- What is printed of a value that was counted.
use Rattle.std.proofs.Common.{◌≡◌, ◌∙◌, ℕ, List, [], ◌++◌, Option, None, Result, Ok, Err, inr, ap, refl, String, Global, string_bytes}
use Rattle.std.proofs.lemmas.Bool.{false≢true}
use Rattle.std.specs.Prelude.{IfOk}
use Rattle.std.specs.Result.{IsErr}
use Rattle.std.specs.declared.io.Error.{Error}
use Rattle.tinyjson.proofs.Callers.{Appends_both, begins, goes, stops, stops_then}
use Rattle.tinyjson.specs.Grammar.{IsText}
use Rattle.tinyjson.specs.Tree.{Tree}
use Rattle.tinyjson.specs.Written.{Written, WrittenPart}
use Rattle.tinyjson_cli.specs.Tools.{Answered}
use Rattle.tinyjson_cli.specs.declared.status.Status.{Status}
use Rattle.tinyjson_cli.specs.declared.status.Status.TheVariants.{Done}
use Rattle.tinyjson_cli.specs.declared.texts.NoAnswer.{NoAnswer}
use Rattle.tinyjson_lines.specs.Line.{line_of}
use Rattle.json_store.specs.Counts.{GivesCount, count_text}
use Rattle.json_store.specs.Store.{CountsOnce, count_of}
use Rattle.json_store.specs.declared.count.Counter.{Counter}
use Rattle.json_store.specs.declared.store.Store.{Store}

module _ (old : Store) (new : Counter) (text : List ℕ) (t : Tree) (is_text : IsText None text t) (once : CountsOnce old t new.store)
    (bytes : List ℕ) (is : bytes ≡ count_text (count_of new.store t)) (held : Option (List ℕ)) where
  counted : GivesCount old text (Ok (Done, bytes ++ line_of t)) new.store
  counted = (refl, t, is_text, once, ap (λ b. b ++ line_of t) is)

  module _ (mid holds : Option (List ℕ)) (count : Written held mid bytes []) where
    pub printed : Written mid holds (line_of t) [] → Answered (λ f c. GivesCount old text f c.store) new held holds (Ok (Ok Done))
    printed w = (bytes ++ line_of t, counted, Appends_both held mid holds bytes (line_of t) count w)

  begun : (holds : Option (List ℕ)) (r : Result (Result Status NoAnswer) Error) → IsErr r → WrittenPart held holds (bytes ++ line_of t)
      → Answered (λ f c. GivesCount old text f c.store) new held holds r
  begun holds (Ok x) j w = absurd (false≢true j)
  begun holds (Err e) j w = inr (Done, bytes ++ line_of t, new, counted, w)

  -- the count is cut off
  pub count_cut : (holds : Option (List ℕ)) (r : Result (Result Status NoAnswer) Error) → IsErr r → WrittenPart held holds bytes
      → Answered (λ f c. GivesCount old text f c.store) new held holds r
  count_cut holds r j w = begun holds r j (stops (line_of t) w begins)

  -- the line after it is
  pub line_cut : (mid holds : Option (List ℕ)) (r : Result (Result Status NoAnswer) Error) → IsErr r → Written held mid bytes []
      → WrittenPart mid holds (line_of t) → Answered (λ f c. GivesCount old text f c.store) new held holds r
  line_cut mid holds r j h w = begun holds r j (stops_then (line_of t) (goes (line_of t) h begins) w)

-- what a count says, once one more value was counted
pub count_told : {E : Type 0} (old new : Store) (t : Tree) (r : Result (String Global) E) (n : ℕ) → CountsOnce old t new
    → n ≡ count_of new t → IfOk r (λ s. string_bytes s ≡ count_text n)
    → IfOk r (λ s. CountsOnce old t new × (string_bytes s ≡ count_text (count_of new t)))
count_told old new t (Ok s) n once e h = (once, h ∙ ap count_text e)
count_told old new t (Err x) n once e h = tt
