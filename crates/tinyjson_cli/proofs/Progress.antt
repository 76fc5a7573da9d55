-- What becomes of files, one after the other.
use lib.Seq.{drop-length}
use Rattle.std.proofs.Common.{◌≡◌, ℕ, ◌+◌, ◌<◌, Bool, true, false, ◌&&◌, List, [], ◌∷◌, ◌++◌, Option, Result, Ok, Err, inl, inr, max, map}
use Rattle.std.proofs.Common.{refl, sym, ap, ◌∙◌, subst, append_assoc, append-nil, add-one, drop, drop-cons, get_or, length, Bor}
use Rattle.std.proofs.KnownBytes.{Appends-nil, Appends-trans, Appends-kept}
use Rattle.std.proofs.lemmas.Bool.{false≢true}
use Rattle.std.specs.Io.KnownBytes.{Appends, Keeps}
use Rattle.tinyjson.proofs.Callers.{stops_then}
use Rattle.tinyjson_cli.proofs.Ending.{failed}
use Rattle.tinyjson_cli.specs.Changing.{is_last}
use Rattle.tinyjson_cli.specs.Failures.{failure_status, goes_on, status_code}
use Rattle.tinyjson_cli.specs.Runs.{Outcome, outcome_status, outcome_bytes, Step, files_of, statuses_of, bytes_of, goes_after, go_on}
use Rattle.tinyjson_cli.specs.Runs.{greatest, Becoming, Handled, Run, Becomes, AnswersFile, RunsFiles, status_of, goes_of, input_file}
use Rattle.tinyjson_cli.specs.Runs.{BecomesInPlace, ReplacesFile, RunsInPlace, changes_others}
use Rattle.tinyjson_cli.specs.Tools.{Meaning}
use Rattle.tinyjson_cli.specs.declared.failure.Failure.{Failure}
use Rattle.tinyjson_cli.specs.declared.failure.Failure.TheVariants as failure
use Rattle.tinyjson_cli.specs.declared.status.Status.{Status}
use Rattle.tinyjson_cli.specs.declared.status.Status.TheVariants.{Done}

and_right : (a b : Bool) → (a && b) ≡ true → (a ≡ true) × (b ≡ true)
and_right true b h = (refl, h)
and_right false b h = absurd (false≢true h)

and_one : (b : Bool) → (b && true) ≡ b
and_one true = refl
and_one false = refl

greatest_next : (n : ℕ) (ss : List Status) (s : Status) → greatest n (ss ++ s ∷ []) ≡ max (greatest n ss) (status_code s)
greatest_next n [] s = refl
greatest_next n (r ∷ ss) s = greatest_next (max n (status_code r)) ss s

module _ {T : Type 0} where
  abbrev step : Option (List ℕ) → Outcome → T → Step T
  step file outcome after = record { file = file; outcome = outcome; after = after }

  files_next : (ss : List (Step T)) (s : Step T) → files_of (ss ++ s ∷ []) ≡ files_of ss ++ s.file ∷ []
  files_next [] s = refl
  files_next (t ∷ ss) s = ap (λ l. t.file ∷ l) (files_next ss s)

  statuses_next : (ss : List (Step T)) (s : Step T) → statuses_of (ss ++ s ∷ []) ≡ statuses_of ss ++ outcome_status s.outcome ∷ []
  statuses_next [] s = refl
  statuses_next (t ∷ ss) s = ap (λ l. outcome_status t.outcome ∷ l) (statuses_next ss s)

  bytes_next : (ss : List (Step T)) (s : Step T) → bytes_of (ss ++ s ∷ []) ≡ bytes_of ss ++ outcome_bytes s.outcome
  bytes_next [] s = append-nil (outcome_bytes s.outcome)
  bytes_next (t ∷ ss) s =
      ap (λ l. outcome_bytes t.outcome ++ l) (bytes_next ss s)
      ∙ sym (append_assoc (outcome_bytes t.outcome) (bytes_of ss) (outcome_bytes s.outcome))

  module _ (goes : Failure → Bool) where
    -- where all before go on, the last one decides
    goes_next : (ss : List (Step T)) (s : Step T) → go_on goes ss ≡ true → go_on goes (ss ++ s ∷ []) ≡ goes_after goes s.outcome
    goes_next [] s h = and_one (goes_after goes s.outcome)
    goes_next (t ∷ ss) s h =
        let both = and_right (goes_after goes t.outcome) (go_on goes ss) h in
        ap (λ b. b && go_on goes (ss ++ s ∷ [])) both.0 ∙ goes_next ss s both.1

    module _ (becomes : Becoming T) where
      handled_next : (old now new : T) (ss : List (Step T)) (file : Option (List ℕ)) (o : Outcome)
          → Handled becomes goes old ss now → go_on goes ss ≡ true → becomes now file o new
          → Handled becomes goes old (ss ++ step file o new ∷ []) new
      handled_next old now new [] file o h on k = (subst (λ t. becomes t file o new) (sym h) k, inr refl, refl)
      handled_next old now new (t ∷ ss) file o h on k =
          let both = and_right (goes_after goes t.outcome) (go_on goes ss) on in
          (h.0, inl both.0, handled_next t.after now new ss file o h.2 both.1 k)

      -- Before the files that are left: what became of the others, and the greatest of their statuses.
      pub record Progress (files left : List (Option (List ℕ))) (old now : T) (steps : List (Step T)) (status : Status) : Type 0 where
        pub handled : Handled becomes goes old steps now
        pub on : go_on goes steps ≡ true
        pub split : files ≡ files_of steps ++ left
        pub is : status_code status ≡ greatest 0 (statuses_of steps)

      pub begun : (files : List (Option (List ℕ))) (old : T) → Progress files files old old [] Done
      begun files old = record { handled = refl; on = refl; split = refl; is = refl }

      module _ (files : List (Option (List ℕ))) (file : Option (List ℕ)) (left : List (Option (List ℕ))) (old now new : T)
          (ss : List (Step T)) (status : Status) (p : Progress files (file ∷ left) old now ss status)
          (o : Outcome) (k : becomes now file o new) (after : Status)
          (e : status_code after ≡ max (status_code status) (status_code (outcome_status o))) where
        split_next : files ≡ files_of (ss ++ step file o new ∷ []) ++ left
        split_next =
            p.split ∙ (sym (append_assoc (files_of ss) (file ∷ []) left)
            ∙ ap (λ l. l ++ left) (sym (files_next ss (step file o new))))

        is_next : status_code after ≡ greatest 0 (statuses_of (ss ++ step file o new ∷ []))
        is_next =
            e ∙ (ap (λ n. max n (status_code (outcome_status o))) p.is
            ∙ (sym (greatest_next 0 (statuses_of ss) (outcome_status o))
            ∙ ap (greatest 0) (sym (statuses_next ss (step file o new)))))

        pub next : goes_after goes o ≡ true → Progress files left old new (ss ++ step file o new ∷ []) after
        next g = record {
          handled = handled_next old now new ss file o p.handled p.on k;
          on = goes_next ss (step file o new) p.on ∙ g;
          split = split_next;
          is = is_next;
        }

        pub last : goes_after goes o ≡ false → Run becomes goes files old new (ss ++ step file o new ∷ []) after
        last g = record {
          handled = handled_next old now new ss file o p.handled p.on k;
          more = left;
          first = split_next;
          all = λ h. absurd (false≢true (sym (goes_next ss (step file o new) p.on ∙ g) ∙ h));
          is = is_next;
        }

      pub all : (files : List (Option (List ℕ))) (old now : T) (ss : List (Step T)) (status : Status)
          → Progress files [] old now ss status → Run becomes goes files old now ss status
      all files old now ss status p = record { handled = p.handled; more = []; first = p.split; all = λ h. refl; is = p.is }

abbrev files : List (Bor (List ℕ)) → List (Option (List ℕ))
files names = map (λ f. input_file f.now) names

-- the file at a place of all of them
files_at : (names : List (Bor (List ℕ))) (i : ℕ) (d : Bor (List ℕ)) (file : Option (List ℕ)) → i < length names
    → file ≡ input_file (get_or names i d).now → files (drop i names) ≡ file ∷ files (drop (i + 1) names)
files_at names i d file low named =
    ap files (drop-cons names i d low ∙ ap (λ n. get_or names i d ∷ drop n names) (sym (add-one i)))
    ∙ ap (λ x. x ∷ files (drop (i + 1) names)) (sym named)

none_left : (names : List (Bor (List ℕ))) (i : ℕ) → i ≡ length names → files (drop i names) ≡ []
none_left names i e = ap (λ n. files (drop n names)) e ∙ ap files (drop-length names)

last_stops : (f : Failure) → is_last f ≡ true → goes_on f ≡ false
last_stops failure.OutOfMemory e = refl
last_stops failure.Closed e = refl
last_stops (failure.Writing x) e = refl
last_stops (failure.No w) e = cc
last_stops (failure.Misused w) e = cc
last_stops (failure.NotJson x) e = cc
last_stops (failure.NotUtf8 p) e = cc
last_stops (failure.Refused w) e = cc
last_stops (failure.Failed w) e = cc
last_stops (failure.Reading x) e = cc

-- ---- files that are answered

module _ {T : Type 0} (gives : Meaning T) where
  -- the same, with what is written
  pub record Answered_so_far (all left : List (Option (List ℕ))) (old now : T) (held holds : Option (List ℕ)) (gathered : List ℕ)
      (status : Status) : Type 0 where
    pub steps : List (Step T)
    pub progress : Progress goes_on (Becomes gives) all left old now steps status
    pub written : Appends held holds (bytes_of steps)
    pub flushed : gathered ≡ []

  pub answers_begin : (all : List (Option (List ℕ))) (old : T) (held : Option (List ℕ)) (gathered : List ℕ) → gathered ≡ []
      → Answered_so_far all all old old held held gathered Done
  answers_begin all old held gathered e = record {
    steps = [];
    progress = begun goes_on (Becomes gives) all old;
    written = Appends-nil held;
    flushed = e;
  }

  pub answers_end : (names : List (Bor (List ℕ))) (i : ℕ) (old now : T) (held holds : Option (List ℕ)) (gathered : List ℕ)
      (status : Status) → i ≡ length names
      → Answered_so_far (files names) (files (drop i names)) old now held holds gathered status
      → RunsFiles gives (files names) old now held holds gathered status
  answers_end names i old now held holds gathered status e h = inl record {
    steps = h.steps;
    run = all goes_on (Becomes gives) (files names) old now h.steps status
        (subst (λ l. Progress goes_on (Becomes gives) (files names) l old now h.steps status) (none_left names i e) h.progress);
    written = h.written;
    flushed = h.flushed;
  }

  module _ (names : List (Bor (List ℕ))) (i : ℕ) (d : Bor (List ℕ)) (low : i < length names) (file : Option (List ℕ))
      (named : file ≡ input_file (get_or names i d).now) (old now new : T) (held holds after : Option (List ℕ))
      (before gathered : List ℕ) (status : Status)
      (h : Answered_so_far (files names) (files (drop i names)) old now held holds before status) where
    abbrev left : List (Option (List ℕ))
    left = files (drop (i + 1) names)

    so_far : Progress goes_on (Becomes gives) (files names) (file ∷ left) old now h.steps status
    so_far = subst (λ l. Progress goes_on (Becomes gives) (files names) l old now h.steps status)
        (files_at names i d file low named) h.progress

    appended : (o : Outcome) → Appends holds after (outcome_bytes o) → Appends held after (bytes_of (h.steps ++ step file o new ∷ []))
    appended o a = subst (Appends held after) (sym (bytes_next h.steps (step file o new)))
        (Appends-trans held holds after (bytes_of h.steps) (outcome_bytes o) h.written a)

    kept : Keeps holds after → Appends holds after []
    kept k = Appends-kept holds holds after [] (Appends-nil holds) k

    module _ (of_file more : Status) (e : status_code more ≡ max (status_code status) (status_code of_file)) where
      same : (s : Status) → of_file ≡ s → status_code more ≡ max (status_code status) (status_code s)
      same s is = e ∙ ap (λ x. max (status_code status) (status_code x)) is

      goes_on_with : (o : Outcome) → Becomes gives now file o new → of_file ≡ outcome_status o → Appends holds after (outcome_bytes o)
          → gathered ≡ [] → goes_after goes_on o ≡ true → Answered_so_far (files names) left old new held after gathered more
      goes_on_with o k is a none g = record {
        steps = h.steps ++ step file o new ∷ [];
        progress = next goes_on (Becomes gives) (files names) file left old now new h.steps status so_far o k more
            (same (outcome_status o) is) g;
        written = appended o a;
        flushed = none;
      }

      pub answers_go_on : (r : Result Status Failure) → AnswersFile gives now new file holds after gathered r → of_file ≡ status_of r
          → goes_of goes_on r ≡ true → Answered_so_far (files names) left old new held after gathered more
      answers_go_on (Ok s) k is g = goes_on_with (Ok (s, k.0)) k.1 is k.2 k.3 refl
      answers_go_on (Err f) (inl k) is g = goes_on_with (Err f) k.0 is (kept k.1) k.2 g
      answers_go_on (Err f) (inr k) is g = absurd (false≢true (sym (last_stops f k.0) ∙ g))

      pub answers_stop : (r : Result Status Failure) → AnswersFile gives now new file holds after gathered r → of_file ≡ status_of r
          → goes_of goes_on r ≡ false → RunsFiles gives (files names) old new held after gathered more
      answers_stop (Ok s) k is g = absurd (false≢true (sym g))
      answers_stop (Err f) (inl k) is g = inl record {
        steps = h.steps ++ step file (Err f) new ∷ [];
        run = last goes_on (Becomes gives) (files names) file left old now new h.steps status so_far (Err f) k.0 more
            (same (failure_status f) is) g;
        written = appended (Err f) (kept k.1);
        flushed = k.2;
      }
      answers_stop (Err f) (inr k) is g = inr record {
        steps = h.steps;
        last = now;
        handled = so_far.handled;
        file = file;
        more = left;
        first = so_far.split;
        bytes = k.1;
        unwritten = k.2;
        written = stops_then {old = held} {mid = holds} {new = after} {bytes = bytes_of h.steps ++ k.1} k.1 (record { done = bytes_of h.steps; split = refl; appended = h.written }) k.3;
        is = failed status of_file more f k.0 is e;
      }

-- ---- files in place

module _ {T : Type 0} (gives : Meaning T) where
  abbrev pub Replaced_so_far : List (Option (List ℕ)) → List (Option (List ℕ)) → T → T → Status → Type 0
  Replaced_so_far all left old now status =
      (steps : List (Step T)) × Progress changes_others (BecomesInPlace gives) all left old now steps status

  pub replaces_begin : (all : List (Option (List ℕ))) (old : T) → Replaced_so_far all all old old Done
  replaces_begin all old = ([], begun changes_others (BecomesInPlace gives) all old)

  pub replaces_end : (names : List (Bor (List ℕ))) (i : ℕ) (old now : T) (status : Status) → i ≡ length names
      → Replaced_so_far (files names) (files (drop i names)) old now status → RunsInPlace gives (files names) old now status
  replaces_end names i old now status e h = (
    h.0,
    all changes_others (BecomesInPlace gives) (files names) old now h.0 status
        (subst (λ l. Progress changes_others (BecomesInPlace gives) (files names) l old now h.0 status) (none_left names i e) h.1),
  )

  module _ (names : List (Bor (List ℕ))) (i : ℕ) (d : Bor (List ℕ)) (low : i < length names) (file : Option (List ℕ))
      (named : file ≡ input_file (get_or names i d).now) (old now new : T) (status of_file more : Status)
      (h : Replaced_so_far (files names) (files (drop i names)) old now status)
      (e : status_code more ≡ max (status_code status) (status_code of_file)) where
    abbrev rest : List (Option (List ℕ))
    rest = files (drop (i + 1) names)

    replaced : Progress changes_others (BecomesInPlace gives) (files names) (file ∷ rest) old now h.0 status
    replaced = subst (λ l. Progress changes_others (BecomesInPlace gives) (files names) l old now h.0 status)
        (files_at names i d file low named) h.1

    same_status : (s : Status) → of_file ≡ s → status_code more ≡ max (status_code status) (status_code s)
    same_status s is = e ∙ ap (λ x. max (status_code status) (status_code x)) is

    pub replaces_go_on : (r : Result Status Failure) → ReplacesFile gives now new file r → of_file ≡ status_of r
        → goes_of changes_others r ≡ true → Replaced_so_far (files names) rest old new more
    replaces_go_on (Ok s) k is g = (
      h.0 ++ step file (Ok (s, k.0)) new ∷ [],
      next changes_others (BecomesInPlace gives) (files names) file rest old now new h.0 status replaced (Ok (s, k.0)) k.1 more
          (same_status s is) refl,
    )
    replaces_go_on (Err f) k is g = (
      h.0 ++ step file (Err f) new ∷ [],
      next changes_others (BecomesInPlace gives) (files names) file rest old now new h.0 status replaced (Err f) k more
          (same_status (failure_status f) is) g,
    )

    pub replaces_stop : (r : Result Status Failure) → ReplacesFile gives now new file r → of_file ≡ status_of r
        → goes_of changes_others r ≡ false → RunsInPlace gives (files names) old new more
    replaces_stop (Ok s) k is g = absurd (false≢true (sym g))
    replaces_stop (Err f) k is g = (
      h.0 ++ step file (Err f) new ∷ [],
      last changes_others (BecomesInPlace gives) (files names) file rest old now new h.0 status replaced (Err f) k more
          (same_status (failure_status f) is) g,
    )
