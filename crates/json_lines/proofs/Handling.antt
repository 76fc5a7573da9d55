-- One line that was written, refused and told, or cut off.
use Rattle.std.proofs.Common.{◌≡◌, ℕ, List, [], Option, None, Some, Result, Ok, Err, ⊎_elim, inl, inr, refl, subst}
use Rattle.std.proofs.KnownBytes.{Appends-nil, Keeps-refl}
use Rattle.std.proofs.lemmas.Bool.{false≢true}
use Rattle.std.specs.Io.KnownBytes.{Keeps}
use Rattle.std.specs.Result.{IsErr}
use Rattle.std.specs.declared.io.Error.{Error}
use Rattle.tinyjson.proofs.Callers.{Appends_keeps, Appends_written, begins, stop, written_same}
use Rattle.tinyjson.specs.Written.{Written, WrittenPart}
use Rattle.json_lines.specs.Lines.{telling_of}
use Rattle.json_lines.specs.Run.{Handles, IsGiven, WritesGiven, WritesLine}
use Rattle.json_lines.specs.declared.lines.Options.{Options}
use Rattle.json_lines.specs.declared.lines.Outcome.{Outcome}
use Rattle.json_lines.specs.declared.lines.Outcome.TheVariants.{AllWritten, SomeRefused}
use Rattle.tinyjson_lines.specs.declared.refusal.Cause.{Cause}
use Rattle.tinyjson_lines.specs.declared.refusal.Cause.TheVariants.{NotUtf8, NotJson, TooLong}

-- ---- a line that is given

-- a line within the limit is written, or refused by its text
pub within_written : (limit max : Option ℕ) (line xs : List ℕ) (held holds : Option (List ℕ)) (r : Result (Option Cause) Error)
    → IsGiven limit max line (Ok xs) → WritesLine limit xs held holds r → WritesGiven limit max line held holds r
within_written limit max line xs held holds r g h = of r (subst (λ l. WritesLine limit l held holds r) g.0 h)
  where
    of : (q : Result (Option Cause) Error) → WritesLine limit line held holds q → WritesGiven limit max line held holds q
    of (Ok None) k = (k.0, (g.1, k.1), k.2)
    of (Ok (Some NotUtf8)) k = ((g.1, k.0), k.1)
    of (Ok (Some (NotJson e))) k = ((g.1, k.0), k.1)
    of (Ok (Some (TooLong m))) k = absurd k.0
    of (Err e) k = ⊎_elim (λ l. inl l) (λ l. inr (l.0, (g.1, l.1), l.2)) k

-- one that was passed over is refused
pub passed_written : (limit max : Option ℕ) (line : List ℕ) (held : Option (List ℕ)) (c : Cause) → IsGiven limit max line (Err c)
    → WritesGiven limit max line held held (Ok (Some c))
passed_written limit max line held c g = (g, Keeps-refl held)

-- ---- a line that was written, refused and told, or cut off

module _ (options : Options) (n : ℕ) (line : List ℕ) (held holds told : Option (List ℕ)) where
  pub line_written : (o : Option Cause) → o ≡ None → WritesGiven options.limit options.max_line line held holds (Ok o)
      → Handles options n line held holds told told (Ok AllWritten)
  line_written o is h =
      let w : WritesGiven options.limit options.max_line line held holds (Ok None) =
      subst (λ q. WritesGiven options.limit options.max_line line held holds (Ok q)) is h in
      (Ok w.0, w.1, refl, w.2, Appends-nil told)

  pub write_failed : (e : Error) → WritesGiven options.limit options.max_line line held holds (Err e)
      → Handles options n line held holds told told (Err e)
  write_failed e h = ⊎_elim (λ k. inl (k, Keeps-refl told)) (λ w. inr (Ok w.0, w.1, w.2, stop begins)) h

-- a line is refused, the output is flushed, and the refusal is told
module _ (options : Options) (n : ℕ) (line : List ℕ) (held mid holds told tells : Option (List ℕ)) (o : Option Cause) (c : Cause)
    (is : o ≡ Some c) (h : WritesGiven options.limit options.max_line line held mid (Ok o)) (flushed : Keeps mid holds) where
  not_written : WritesGiven options.limit options.max_line line held mid (Ok (Some c))
  not_written = subst (λ q. WritesGiven options.limit options.max_line line held mid (Ok q)) is h

  pub line_told : Written told tells (telling_of options n (Err c)) [] → Handles options n line held holds told tells (Ok SomeRefused)
  line_told t = (
    Err c,
    not_written.0,
    refl,
    Appends_keeps held mid holds [] (Appends_keeps held held mid [] (Appends-nil held) not_written.1) flushed,
    Appends_written told tells (telling_of options n (Err c)) t,
  )

  pub tell_failed : (e : Error) → WrittenPart told tells (telling_of options n (Err c))
      → Handles options n line held holds told tells (Err e)
  tell_failed e t = inr (Err c, not_written.0, stop (written_same (written_same begins not_written.1) flushed), t)

-- the exit of a `?`
pub at_line_error : (options : Options) (n : ℕ) (line : List ℕ) (held holds told tells : Option (List ℕ)) (r : Result Outcome Error)
    (e : Error)
    → IsErr r → Handles options n line held holds told tells (Err e) → Handles options n line held holds told tells r
at_line_error options n line held holds told tells (Ok x) e i h = absurd (false≢true i)
at_line_error options n line held holds told tells (Err x) e i h = h
