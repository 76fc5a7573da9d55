-- The check of line after line.
use Rattle.std.proofs.Common.{◌≡◌, ◌+◌, ℕ, List, [], ◌∷◌, ◌++◌, Option, Result, Ok, Err, ⊎_elim, refl, ap, ◌∙◌}
use Rattle.std.proofs.lemmas.Bool.{false≢true}
use Rattle.std.specs.Io.KnownBytes.{Keeps}
use Rattle.std.specs.Result.{IsErr}
use Rattle.std.specs.declared.io.Error.{Error}
use Rattle.tinyjson_lines.proofs.Callers as run
use Rattle.tinyjson_lines.specs.Lines.{LinesRead, AllRead}
use Rattle.json_schema.specs.Run.{Checked, Gives, Handles, Runs, output_of, telling_of, both, outcome_of_all}
use Rattle.json_schema.specs.declared.lines.Check.{Check}
use Rattle.json_schema.specs.declared.lines.Outcome.{Outcome}
use Rattle.json_schema.specs.declared.lines.Outcome.TheVariants.{AllValid}
use Rattle.json_schema.proofs.Outcomes.{outcome_next}

-- Before the line of this number: the lines before it are checked, with this outcome.
pub record Progress (k : Check) (unread left held holds told tells : Option (List ℕ)) (number : ℕ) (outcome : Outcome) : Type 0 where
  pub verdicts : List Checked
  pub progress : run.Progress (Gives k) (output_of k) (telling_of k) unread left held holds told tells number verdicts
  pub is : outcome ≡ outcome_of_all verdicts

pub begun : (k : Check) (unread held told : Option (List ℕ)) → Progress k unread unread held held told told 1 AllValid
begun k unread held told = record {
  verdicts = [];
  progress = run.begun (Gives k) (output_of k) (telling_of k) unread held told;
  is = refl;
}

module _ (k : Check) (unread left held holds told tells : Option (List ℕ)) (n : ℕ) (o : Outcome)
    (p : Progress k unread left held holds told tells n o) where
  -- an error, after which nothing more was written or told
  pub stopped : (after new news : Option (List ℕ)) (r : Result Outcome Error) → IsErr r → Keeps holds new → Keeps tells news
      → Runs k unread after held new told news r
  stopped after new news (Ok x) i h l = absurd (false≢true i)
  stopped after new news (Err x) i h l =
      run.stopped (Gives k) (output_of k) (telling_of k) unread left held holds told tells n p.verdicts p.progress new news h l

  pub ended : (after new : Option (List ℕ)) → AllRead left after [] → Keeps holds new → Runs k unread after held new told tells (Ok o)
  ended after new end h = (
    p.verdicts,
    run.ended (Gives k) (output_of k) (telling_of k) unread left held holds told tells n p.verdicts p.progress after new end h,
    p.is,
  )

  module _ (after new news : Option (List ℕ)) (line : List ℕ) (one : LinesRead left after (line ∷ [])) where
    pub next : (r outcome : Outcome) → outcome ≡ both o r → Handles k n line holds new tells news (Ok r)
        → Progress k unread after held new told news (n + 1) outcome
    next r outcome e h = record {
      verdicts = p.verdicts ++ h.0 ∷ [];
      progress = run.next (Gives k) (output_of k) (telling_of k) unread left held holds told tells n p.verdicts p.progress
          after new news line one h.0 h.1 h.3 h.4;
      is = e ∙ (ap (λ a. both a r) p.is ∙ (ap (both (outcome_of_all p.verdicts)) h.2 ∙ outcome_next p.verdicts h.0));
    }

    pub failed : (r : Result Outcome Error) → IsErr r → (e : Error) → Handles k n line holds new tells news (Err e)
        → Runs k unread after held new told news r
    failed (Ok x) i e h = absurd (false≢true i)
    failed (Err x) i e h = ⊎_elim
        (λ e. run.stopped (Gives k) (output_of k) (telling_of k) unread left held holds told tells n p.verdicts p.progress new news e.0 e.1)
        (λ e. run.cut (Gives k) (output_of k) (telling_of k) unread left held holds told tells n p.verdicts p.progress
        after new news line one e.0 e.1 e.2 e.3)
        h
