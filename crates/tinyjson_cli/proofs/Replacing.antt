-- A file in place: it can't be read, or has no answer, or is changed.
use Rattle.std.proofs.Common.{◌≡◌, ℕ, List, Option, None, Some, Result, Ok, Err, inl, inr, ap, refl, subst, sym, Vec, Global}
use Rattle.std.specs.Prelude.{MatchOption}
use Rattle.std.specs.Result.{IsErrAnd}
use Rattle.tinyjson_cli.specs.Changing.{IsUnanswered}
use Rattle.tinyjson_cli.specs.Ending.{IsOfInput}
use Rattle.tinyjson_cli.specs.Failures.{failure_status}
use Rattle.tinyjson_cli.specs.Runs.{BecomesInPlace, ReplacesFile, whole}
use Rattle.tinyjson_cli.specs.Tools.{Meaning}
use Rattle.tinyjson_cli.specs.declared.failure.Failure.{Failure}
use Rattle.tinyjson_cli.specs.declared.status.Status.{Status}
use Rattle.tinyjson_cli.specs.declared.status.Status.TheVariants.{Failed}

module _ {T : Type 0} (gives : Meaning T) (old new : T) (file : Option (List ℕ)) where
  -- the exit of a `?`
  fails : (r : Result Status Failure) (f : Failure) → IsErrAnd r (λ d. d ≡ f) → BecomesInPlace gives old file (Err f) new
      → ReplacesFile gives old new file r
  fails (Ok s) f i k = absurd i
  fails (Err d) f i k = subst (λ x. BecomesInPlace gives old file (Err x) new) (sym i) k

  pub unanswered : (text : List ℕ) (r : Result Status Failure) (f : Failure) → IsErrAnd r (λ d. d ≡ f)
      → IsUnanswered gives old new (whole file) text f → ReplacesFile gives old new file r
  unanswered text r f i (inl h) = fails r f i (inr (inl (text, h.0, h.1, h.2)))
  unanswered text r f i (inr e) = fails r f i (inr (inr (ap failure_status e)))

  pub unwritten : (r : Result Status Failure) (f : Failure) → IsErrAnd r (λ d. d ≡ f) → failure_status f ≡ Failed
      → ReplacesFile gives old new file r
  unwritten r f i e = fails r f i (inr (inr e))

  pub changed : (text : List ℕ) (s : Status) (o : Option (Vec ℕ Global))
      → MatchOption o (gives old (whole file) text (Ok (s, text)) new)
      (λ v. gives old (whole file) text (Ok (s, v.items)) new × ¬ (v.items ≡ text)) → ReplacesFile gives old new file (Ok s)
  changed text s None h = (text, (text, h))
  changed text s (Some v) h = (v.items, (text, h.0))

module _ {T : Type 0} (gives : Meaning T) (old : T) (file : Option (List ℕ)) where
  pub unread : (r : Result Status Failure) (f : Failure) → IsErrAnd r (λ d. d ≡ f) → IsOfInput f → ReplacesFile gives old old file r
  unread r f i h = fails gives old old file r f i (inl (h, refl))
