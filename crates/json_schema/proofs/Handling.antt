-- One line that is shown or can't be checked, or is cut off.
use Rattle.std.proofs.Common.{◌≡◌, ℕ, [], List, Option, Result, Ok, Err, inl, inr, refl, subst}
use Rattle.std.proofs.KnownBytes.{Appends-nil, Keeps-refl}
use Rattle.std.proofs.lemmas.Bool.{false≢true}
use Rattle.std.specs.Io.KnownBytes.{Appends, Keeps}
use Rattle.std.specs.Result.{IsErr}
use Rattle.std.specs.declared.io.Error.{Error}
use Rattle.tinyjson.proofs.Callers.{Appends_keeps, Appends_written, begins, stop, written_same}
use Rattle.tinyjson.specs.Written.{Written, WrittenPart}
use Rattle.tinyjson_lines.specs.Within.{IsWithin}
use Rattle.tinyjson_schema.specs.Valid.{Root}
use Rattle.json_schema.specs.Run.{Handles, Refuses, outcome_of, shown_of, told_of}
use Rattle.tinyjson_schema_report.specs.Verdicts.{judged}
use Rattle.json_schema.specs.Verdicts.{LineGives, GivesWithin}
use Rattle.json_schema.specs.declared.lines.Check.{Check}
use Rattle.json_schema.specs.declared.lines.Outcome.{Outcome}
use Rattle.tinyjson_schema_report.specs.declared.verdict.Cause.{Cause}
use Rattle.tinyjson_schema_report.specs.declared.verdict.Cause.TheVariants.{NotUtf8, NotJson, TooDeep, TooMuch, TooLong}
use Rattle.tinyjson_schema_report.specs.declared.verdict.Verdict.{Verdict}
use Rattle.tinyjson_schema_report.specs.declared.verdict.Verdict.TheVariants.{Valid, Invalid, Refused}

-- a line within the limit has the verdict on its text
pub within_checked : (max : Option ℕ) (s : Root) (line : List ℕ) (v : Verdict) → IsWithin max line → LineGives s line v
    → GivesWithin max s line v
within_checked max s line Valid w k = (w, k)
within_checked max s line (Invalid v) w k = (w, k)
within_checked max s line (Refused NotUtf8) w k = (w, k)
within_checked max s line (Refused (NotJson e)) w k = (w, k)
within_checked max s line (Refused TooDeep) w k = (w, k)
within_checked max s line (Refused TooMuch) w k = (w, k)
within_checked max s line (Refused (TooLong m)) w k = absurd k.1.2

module _ (check : Check) (n : ℕ) (line : List ℕ) (held told : Option (List ℕ)) where
  -- the exit of a `?`
  pub at_error : (holds tells : Option (List ℕ)) (r : Result Outcome Error) → IsErr r
      → ((e : Error) → Handles check n line held holds told tells (Err e)) → Handles check n line held holds told tells r
  at_error holds tells (Ok x) i h = absurd (false≢true i)
  at_error holds tells (Err x) i h = h x

  pub unhandled : (holds : Option (List ℕ)) (r : Result Outcome Error) → IsErr r → Keeps held holds
      → Handles check n line held holds told told r
  unhandled holds r i k = at_error holds told r i (λ e. inl (k, Keeps-refl told))

  module _ (v : Verdict) (h : GivesWithin check.max_line (judged check.judge) line v) (holds : Option (List ℕ)) where
    pub line_shown : (o : Outcome) → o ≡ outcome_of v → [] ≡ told_of check n v → Written held holds (shown_of check n line v) []
        → Handles check n line held holds told told (Ok o)
    line_shown o e t w = (
      record { line = line; verdict = v },
      (refl, h),
      e,
      Appends_written held holds (shown_of check n line v) w,
      subst (Appends told told) t (Appends-nil told),
    )

    pub show_failed : (r : Result Outcome Error) → IsErr r → WrittenPart held holds (shown_of check n line v)
        → Handles check n line held holds told told r
    show_failed r i w = at_error holds told r i (λ e. inr (record { line = line; verdict = v }, (refl, h), w, stop begins))

  module _ (c : Cause) (h : GivesWithin check.max_line (judged check.judge) line (Refused c)) (holds after tells : Option (List ℕ)) where
    pub line_refused : (r : Result Outcome Error) → Written held holds (shown_of check n line (Refused c)) []
        → Refuses check n c holds after told tells r → Handles check n line held after told tells r
    line_refused (Ok o) w q = (
      record { line = line; verdict = Refused c },
      (refl, h),
      q.0,
      Appends_keeps held holds after (shown_of check n line (Refused c))
          (Appends_written held holds (shown_of check n line (Refused c)) w) q.1,
      q.2,
    )
    line_refused (Err e) w q = inr (record { line = line; verdict = Refused c }, (refl, h), stop (written_same w q.0), q.1)

-- ---- the message

module _ (check : Check) (n : ℕ) (c : Cause) (held holds told : Option (List ℕ)) (k : Keeps held holds) where
  pub refuse_failed : (tells : Option (List ℕ)) (r : Result Outcome Error) → IsErr r → WrittenPart told tells (told_of check n (Refused c))
      → Refuses check n c held holds told tells r
  refuse_failed tells (Ok x) i w = absurd (false≢true i)
  refuse_failed tells (Err x) i w = (k, w)
