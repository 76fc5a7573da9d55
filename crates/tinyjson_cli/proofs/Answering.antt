-- One line that was answered, or has no answer, or is cut off.
use Rattle.std.proofs.Common.{◌≡◌, ℕ, Bool, true, false, List, [], Option, None, Some, Result, max}
use Rattle.std.proofs.Common.{Ok, Err, inl, inr, refl, sym, ap, ◌∙◌, option_map, subst}
use Rattle.std.proofs.KnownBytes.{Appends-nil, Appends-kept, Keeps-refl, Keeps-trans}
use Rattle.std.proofs.lemmas.Bool.{false≢true}
use Rattle.std.specs.Io.KnownBytes.{Appends, Keeps}
use Rattle.std.specs.Result.{IsErr}
use Rattle.std.specs.Str.{IsUtf8, chars}
use Rattle.std.specs.declared.io.Error.{Error}
use Rattle.tinyjson.proofs.Callers.{Appends_written, begins, stop, written_same}
use Rattle.tinyjson.specs.Written.{Written, WrittenPart}
use Rattle.tinyjson_lines.specs.Each.{HandlesLine}
use Rattle.tinyjson_lines.specs.Lines.{content}
use Rattle.tinyjson_cli.specs.Failures.{status_code}
use Rattle.tinyjson_cli.specs.LineRuns.{AnswersLineOf, IsSameRun, LineBecomes, file_of, handles_run, line_source, status_without}
use Rattle.tinyjson_cli.specs.Tools.{Answered, Meaning}
use Rattle.tinyjson_cli.specs.Unanswered.{unanswered_line}
use Rattle.tinyjson_cli.specs.declared.line_run.LineRun.{LineRun}
use Rattle.tinyjson_cli.specs.declared.status.Status.{Status}
use Rattle.tinyjson_cli.specs.declared.status.Status.TheVariants.{Done, No, Misused, Refused, Failed}
use Rattle.tinyjson_cli.specs.declared.texts.NoAnswer.{NoAnswer}

-- the greater of two statuses
greater : (a b : Status) → (c : Status) × (status_code c ≡ max (status_code a) (status_code b))
greater Done Done = (Done, refl)
greater Done No = (No, refl)
greater Done Misused = (Misused, refl)
greater Done Refused = (Refused, refl)
greater Done Failed = (Failed, refl)
greater No Done = (No, refl)
greater No No = (No, refl)
greater No Misused = (Misused, refl)
greater No Refused = (Refused, refl)
greater No Failed = (Failed, refl)
greater Misused Done = (Misused, refl)
greater Misused No = (Misused, refl)
greater Misused Misused = (Misused, refl)
greater Misused Refused = (Refused, refl)
greater Misused Failed = (Failed, refl)
greater Refused Done = (Refused, refl)
greater Refused No = (Refused, refl)
greater Refused Misused = (Refused, refl)
greater Refused Refused = (Refused, refl)
greater Refused Failed = (Failed, refl)
greater Failed Done = (Failed, refl)
greater Failed No = (Failed, refl)
greater Failed Misused = (Failed, refl)
greater Failed Refused = (Failed, refl)
greater Failed Failed = (Failed, refl)

-- ---- the answer for a line

abbrev with_tool : {T : Type 0} → LineRun T → T → LineRun T
with_tool run t = record {
  alloc = run.alloc;
  tool = t;
  program = run.program;
  file = run.file;
  texts = run.texts;
  status = run.status;
}

module _ {T : Type 0} (gives : Meaning T) (old new : LineRun T) (n : ℕ) (held holds : Option (List ℕ)) (l : List ℕ)
    (u : IsUtf8 (content l)) (status : new.status ≡ old.status) (same : IsSameRun old new) where
  of_line : (r : Result (Result Status NoAnswer) Error)
      → Answered (gives old.tool (line_source old n) (chars (content l))) new.tool held holds r
      → AnswersLineOf gives old new n (Some l) held holds r
  of_line (Ok (Ok s)) w = (w.0, inl (u, w.1, status, same), w.2)
  of_line (Ok (Err why)) w = (inl (u, w.0, status, same), w.1)
  of_line (Err e) (inl w) = inl w
  of_line (Err e) (inr w) = inr (w.0, w.1, with_tool old w.2, inl (u, w.3, refl, (refl, refl, refl, refl)), w.4)

  pub answered_line : (line : Option (List ℕ)) (text : List ℕ) (r : Result (Result Status NoAnswer) Error) → line ≡ Some l
      → text ≡ content l → Answered (gives old.tool (line_source old n) (chars text)) new.tool held holds r
      → AnswersLineOf gives old new n line held holds r
  answered_line line text r e t w = subst (λ o. AnswersLineOf gives old new n o held holds r) (sym e)
      (of_line r (subst (λ x. Answered (gives old.tool (line_source old n) (chars x)) new.tool held holds r) t w))

-- ---- what is done with a line

-- a line leaves all but the program and the status as it was
same_after : {T : Type 0} (gives : Meaning T) (old mid : LineRun T) (n : ℕ) (line : Option (List ℕ)) (f : Result (Status × List ℕ) NoAnswer)
    → LineBecomes gives old n line f mid → (mid.status ≡ old.status) × IsSameRun old mid
same_after gives old mid n None f h = subst (λ m. (m.status ≡ old.status) × IsSameRun old m) (sym h.1) (refl, (refl, refl, refl, refl))
same_after gives old mid n (Some line) f (inl h) = (h.2, h.3)
same_after gives old mid n (Some line) f (inr h) =
    subst (λ m. (m.status ≡ old.status) × IsSameRun old m) (sym h.2) (refl, (refl, refl, refl, refl))

-- the run after a line whose status is this
abbrev with_status : {T : Type 0} → LineRun T → Status → LineRun T
with_status run s = record {
  alloc = run.alloc;
  tool = run.tool;
  program = run.program;
  file = run.file;
  texts = run.texts;
  status = s;
}

module _ {T : Type 0} (gives : Meaning T) (old mid : LineRun T) (n : ℕ) (line : Option (List ℕ)) (held holds told : Option (List ℕ)) where
  -- the exit of a `?`
  pub at_error : (new : LineRun T) (tells : Option (List ℕ)) (r : Result Bool Error) → IsErr r
      → ((e : Error) → HandlesLine (handles_run gives) old new n line held holds told tells (Err e))
      → HandlesLine (handles_run gives) old new n line held holds told tells r
  at_error new tells (Ok x) i h = absurd (false≢true i)
  at_error new tells (Err x) i h = h x

  handled : (after : LineRun T) (s more : Status) (bytes : List ℕ) → status_code more ≡ max (status_code old.status) (status_code s)
      → LineBecomes gives old n line (Ok (s, bytes)) after
      → handles_run gives old n line bytes [] true (with_status after more)
  handled after s more bytes e h =
      (Ok (s, bytes), after, h, refl, refl, refl, e, refl, (same_after gives old after n line (Ok (s, bytes)) h).1)

  pub answered : (o : Result Status NoAnswer) (s more : Status) → o ≡ Ok s → AnswersLineOf gives old mid n line held holds (Ok o)
      → status_code more ≡ max (status_code mid.status) (status_code s)
      → HandlesLine (handles_run gives) old (with_status mid more) n line held holds told told (Ok true)
  answered o s more is x e =
      let w : AnswersLineOf gives old mid n line held holds (Ok (Ok s)) =
      subst (λ r. AnswersLineOf gives old mid n line held holds (Ok r)) is x in
      let before = (same_after gives old mid n line (Ok (s, w.0)) w.1).0 in
      let after = e ∙ ap (λ t. max (status_code t) (status_code s)) before in
      (w.0, [], handled mid s more w.0 after w.1, w.2, Appends-nil told)

  pub unwritten : (new : LineRun T) (e d : Error) → AnswersLineOf gives old mid n line held holds (Err e)
      → HandlesLine (handles_run gives) old new n line held holds told told (Err d)
  unwritten new e d (inl k) = inl (k.1, Keeps-refl told)
  unwritten new e d (inr w) =
      let more = greater old.status w.0 in
      inr (w.1, [], true, with_status w.2 more.0, handled w.2 w.0 more.0 w.1 more.1 w.3, w.4, stop begins)

-- A line has no answer. The output is flushed, and that is reported.
module _ {T : Type 0} (gives : Meaning T) (old mid : LineRun T) (n : ℕ) (line : Option (List ℕ))
    (held flushed holds told tells : Option (List ℕ)) (o : Result Status NoAnswer) (why : NoAnswer) (no : o ≡ Err why)
    (w : AnswersLineOf gives old mid n line held flushed (Ok o)) (kept : Keeps flushed holds)
    (without more : Status) (is : without ≡ status_without mid.texts.goes_on)
    (e : status_code more ≡ max (status_code mid.status) (status_code without)) where
  none : AnswersLineOf gives old mid n line held flushed (Ok (Err why))
  none = subst (λ x. AnswersLineOf gives old mid n line held flushed (Ok x)) no w

  same : (mid.status ≡ old.status) × IsSameRun old mid
  same = same_after gives old mid n line (Err why) none.0

  abbrev words : List ℕ
  words = unanswered_line mid.program.now (file_of mid) n why

  words_same : words ≡ unanswered_line old.program.now (file_of old) n why
  words_same =
      ap (λ p. unanswered_line p.now (file_of mid) n why) same.1.1
      ∙ ap (λ f. unanswered_line old.program.now (option_map (λ s. s.now) f) n why) same.1.2

  status_same : status_code more ≡ max (status_code old.status) (status_code (status_without old.texts.goes_on))
  status_same =
      e ∙ (ap (λ x. max (status_code x) (status_code without)) same.0
      ∙ ap (λ x. max (status_code old.status) (status_code x)) (is ∙ ap (λ t. status_without t.goes_on) same.1.3))

  reports : handles_run gives old n line [] words mid.texts.goes_on (with_status mid more)
  reports = (Err why, mid, none.0, refl, words_same, ap (λ t. t.goes_on) same.1.3, status_same, refl, same.1)

  keeps : Keeps held holds
  keeps = Keeps-trans held flushed holds none.1 kept

  pub unflushed : (d : Error) → HandlesLine (handles_run gives) old (with_status mid more) n line held holds told told (Err d)
  unflushed d = inl (keeps, Keeps-refl told)

  pub reported : Written told tells words []
      → HandlesLine (handles_run gives) old (with_status mid more) n line held holds told tells (Ok mid.texts.goes_on)
  reported t = (
    [],
    words,
    reports,
    Appends-kept held held holds [] (Appends-nil held) keeps,
    Appends_written told tells words t,
  )

  pub unreported : (d : Error) → WrittenPart told tells words
      → HandlesLine (handles_run gives) old (with_status mid more) n line held holds told tells (Err d)
  unreported d t = inr ([], words, mid.texts.goes_on, with_status mid more, reports, stop (written_same begins keeps), t)
