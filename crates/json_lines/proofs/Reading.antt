-- Reading, writing and telling line by line.
use Rattle.std.proofs.Common.{◌≡◌, ℕ, suc, ◌+◌, Bool, true, false, List, [], ◌∷◌, ◌++◌, length, Option, None}
use Rattle.std.proofs.Common.{Some, Result, Ok, Err, ⊎_elim, refl, sym, ap, ◌∙◌, subst, append_assoc, append-nil}
use Rattle.std.proofs.Common.{length-append, arith}
use Rattle.std.proofs.KnownBytes.{Appends-nil, Appends-trans}
use Rattle.std.proofs.lemmas.Bool.{false≢true}
use Rattle.std.specs.Io.KnownBytes.{Appends, Keeps}
use Rattle.std.specs.Result.{IsErr}
use Rattle.std.specs.declared.io.Error.{Error}
use Rattle.tinyjson.proofs.Callers.{Appends_keeps, stop, stops_then, written_same}
use Rattle.tinyjson.specs.Written.{Written, WrittenPart}
use Rattle.tinyjson_lines.proofs.Callers.{lines_read_next, all_read, first_lines}
use Rattle.json_lines.proofs.Cutting.{both_fates, both_outputs}
use Rattle.json_lines.specs.Lines.{Fate, HasFate, HaveFates, output_of, outputs_of, telling_of, tellings_of, outcome_of}
use Rattle.json_lines.specs.Run.{LinesRead, AllRead, EndsRefused, Reaches, AnswersLines, StopsAmongLines, Handles, Runs}
use Rattle.json_lines.specs.declared.lines.Options.{Options}
use Rattle.json_lines.specs.declared.lines.Outcome.{Outcome}
use Rattle.json_lines.specs.declared.lines.Outcome.TheVariants.{AllWritten, SomeRefused}

-- ---- what they give

fates_next : (limit max : Option ℕ) (read : List (List ℕ)) (fates : List Fate) (line : List ℕ) (f : Fate)
    → HaveFates limit max read fates → HasFate limit max line f → HaveFates limit max (read ++ line ∷ []) (fates ++ f ∷ [])
fates_next limit max read fates line f h k = both_fates limit max read (line ∷ []) fates (f ∷ []) h (k, tt)

outputs_next : (fates : List Fate) (f : Fate) → outputs_of (fates ++ f ∷ []) ≡ outputs_of fates ++ output_of f
outputs_next fates f = both_outputs fates (f ∷ []) ∙ ap (λ l. outputs_of fates ++ l) (append-nil (output_of f))

-- the lines before are counted from n, and the next one is number m
tellings_next : (o : Options) (n m : ℕ) (fates : List Fate) (f : Fate) → m ≡ n + length fates
    → tellings_of o n (fates ++ f ∷ []) ≡ tellings_of o n fates ++ telling_of o m f
tellings_next o n m [] f e = let is : n ≡ m = omega (arith, e) in append-nil (telling_of o n f) ∙ ap (λ k. telling_of o k f) is
tellings_next o n m (g ∷ fates) f e =
    let is : m ≡ suc n + length fates = omega (arith, e) in
    ap (λ l. telling_of o n g ++ l) (tellings_next o (suc n) m fates f is)
    ∙ sym (append_assoc (telling_of o n g) (tellings_of o (suc n) fates) (telling_of o m f))

written_last : (fates : List Fate) (f : Fate) → AllWritten ≡ outcome_of (f ∷ []) → outcome_of fates ≡ outcome_of (fates ++ f ∷ [])
written_last [] f h = h
written_last (Ok t ∷ fates) f h = written_last fates f h
written_last (Err c ∷ fates) f h = refl

refused_last : (fates : List Fate) (f : Fate) → SomeRefused ≡ outcome_of (f ∷ []) → SomeRefused ≡ outcome_of (fates ++ f ∷ [])
refused_last [] f h = h
refused_last (Ok t ∷ fates) f h = refused_last fates f h
refused_last (Err c ∷ fates) f h = refl

ends_refused : (fates : List Fate) (f : Fate) → AllWritten ≡ outcome_of fates → SomeRefused ≡ outcome_of (f ∷ [])
    → EndsRefused (fates ++ f ∷ [])
ends_refused fates (Ok t) all h = cc
ends_refused fates (Err c) all h = (fates, c, refl, sym all)

reaches_all : (b : Bool) (unread left : Option (List ℕ)) (read : List (List ℕ)) (fates : List Fate) (o : Outcome) → (b ≡ false
    → o ≡ AllWritten) → AllRead unread left read
    → Reaches b unread left read fates o
reaches_all true unread left read fates o h a = a
reaches_all false unread left read fates AllWritten h a = a
reaches_all false unread left read fates SomeRefused h a = let e : SomeRefused ≡ AllWritten = h refl in cc

reaches_refused : (b : Bool) (unread left : Option (List ℕ)) (read : List (List ℕ)) (fates : List Fate) → b ≡ false
    → LinesRead unread left read → EndsRefused fates
    → Reaches b unread left read fates SomeRefused
reaches_refused false unread left read fates h l e = (l, e)
reaches_refused true unread left read fates h l e = absurd (false≢true (sym h))

-- ---- the loop

-- Before the line of this number: the lines before it are read, and what they give is written or told.
pub record Progress (options : Options) (unread left held holds told tells : Option (List ℕ)) (number : ℕ)
    (outcome : Outcome) : Type 0 where
  pub read : List (List ℕ)
  pub fates : List Fate
  pub are : HaveFates options.limit options.max_line read fates
  pub lines_read : LinesRead unread left read
  pub written : Appends held holds (outputs_of fates)
  pub telling : Appends told tells (tellings_of options 1 fates)
  pub count : number ≡ 1 + length fates
  pub is : outcome ≡ outcome_of fates
  pub unless : options.goes_on ≡ false → outcome ≡ AllWritten

pub begun : (options : Options) (unread held told : Option (List ℕ)) → Progress options unread unread held held told told 1 AllWritten
begun options unread held told = record {
  read = [];
  fates = [];
  are = tt;
  lines_read = none unread;
  written = Appends-nil held;
  telling = Appends-nil told;
  count = refl;
  is = refl;
  unless = λ _. refl;
}
  where
    none : (o : Option (List ℕ)) → LinesRead o o []
    none None = tt
    none (Some xs) = refl

all_written : (held holds : Option (List ℕ)) (bytes : List ℕ) → Appends held holds bytes → Written held holds bytes []
all_written held holds bytes w = record { done = bytes; split = sym (append-nil bytes); appended = w }

module _ (options : Options) (unread left held holds told tells : Option (List ℕ)) (n : ℕ) (o : Outcome)
    (p : Progress options unread left held holds told tells n o) where
  -- nothing more was written, and nothing told
  pub stopped : (new news : Option (List ℕ)) → Keeps holds new → Keeps tells news → StopsAmongLines options unread held new told news
  stopped new news k l = record {
    read = p.read;
    fates = p.fates;
    are = p.are;
    first = first_lines unread left p.read p.lines_read;
    written = stop (written_same (all_written held holds (outputs_of p.fates) p.written) k);
    telling = stop (written_same (all_written told tells (tellings_of options 1 p.fates) p.telling) l);
  }

  pub ended : (after new : Option (List ℕ)) → AllRead left after [] → Keeps holds new
      → AnswersLines options unread after held new told tells o
  ended after new end k = record {
    read = p.read;
    fates = p.fates;
    are = p.are;
    reaches = reaches_all options.goes_on unread after p.read p.fates o p.unless (all_read unread left after p.read p.lines_read end);
    written = Appends_keeps held holds new (outputs_of p.fates) p.written k;
    telling = p.telling;
    is = p.is;
  }

  -- one more line is read
  module _ (after new news : Option (List ℕ)) (line : List ℕ) (one : LinesRead left after (line ∷ [])) where
    one_more : LinesRead unread after (p.read ++ line ∷ [])
    one_more = lines_read_next unread left after p.read line p.lines_read one

    next_written : (f : Fate) → Appends holds new (output_of f) → Appends held new (outputs_of (p.fates ++ f ∷ []))
    next_written f w = subst (Appends held new) (sym (outputs_next p.fates f)) (Appends-trans held holds new (outputs_of p.fates)
        (output_of f) p.written w)

    next_telling : (f : Fate) → Appends tells news (telling_of options n f) → Appends told news (tellings_of options 1 (p.fates ++ f ∷ []))
    next_telling f w = subst (Appends told news) (sym (tellings_next options 1 n p.fates f p.count)) (Appends-trans told tells news
        (tellings_of options 1 p.fates) (telling_of options n f) p.telling w)

    next_count : (f : Fate) → n + 1 ≡ 1 + length (p.fates ++ f ∷ [])
    next_count f = omega (arith, p.count, length-append p.fates (f ∷ []))

    -- it was written
    pub next : (r : Outcome) → r ≡ AllWritten → Handles options n line holds new tells news (Ok r)
        → Progress options unread after held new told news (n + 1) o
    next r all h = record {
      read = p.read ++ line ∷ [];
      fates = p.fates ++ h.0 ∷ [];
      are = fates_next options.limit options.max_line p.read p.fates line h.0 p.are h.1;
      lines_read = one_more;
      written = next_written h.0 h.3;
      telling = next_telling h.0 h.4;
      count = next_count h.0;
      is = p.is ∙ written_last p.fates h.0 (sym all ∙ h.2);
      unless = p.unless;
    }

    -- it was refused, and the run goes on
    pub next_refused : options.goes_on ≡ true → (r : Outcome) → r ≡ SomeRefused → Handles options n line holds new tells news (Ok r)
        → Progress options unread after held new told news (n + 1) SomeRefused
    next_refused on r some_refused h = record {
      read = p.read ++ line ∷ [];
      fates = p.fates ++ h.0 ∷ [];
      are = fates_next options.limit options.max_line p.read p.fates line h.0 p.are h.1;
      lines_read = one_more;
      written = next_written h.0 h.3;
      telling = next_telling h.0 h.4;
      count = next_count h.0;
      is = refused_last p.fates h.0 (sym some_refused ∙ h.2);
      unless = λ off. absurd (false≢true (sym off ∙ on));
    }

    -- it was refused, and the run ends
    pub refused : options.goes_on ≡ false → (r : Outcome) → r ≡ SomeRefused → Handles options n line holds new tells news (Ok r)
        → AnswersLines options unread after held new told news SomeRefused
    refused off r some_refused h = record {
      read = p.read ++ line ∷ [];
      fates = p.fates ++ h.0 ∷ [];
      are = fates_next options.limit options.max_line p.read p.fates line h.0 p.are h.1;
      reaches = reaches_refused options.goes_on unread after (p.read ++ line ∷ []) (p.fates ++ h.0 ∷ []) off one_more
          (ends_refused p.fates h.0 (sym (p.unless off) ∙ p.is) (sym some_refused ∙ h.2));
      written = next_written h.0 h.3;
      telling = next_telling h.0 h.4;
      is = refused_last p.fates h.0 (sym some_refused ∙ h.2);
    }

    -- writing it or telling of it failed
    cut : (f : Fate) → HasFate options.limit options.max_line line f → WrittenPart holds new (output_of f)
        → WrittenPart tells news (telling_of options n f)
        → StopsAmongLines options unread held new told news
    cut f h w t = record {
      read = p.read ++ line ∷ [];
      fates = p.fates ++ f ∷ [];
      are = fates_next options.limit options.max_line p.read p.fates line f p.are h;
      first = first_lines unread after (p.read ++ line ∷ []) one_more;
      written = stops_then (output_of f) (record { done = outputs_of p.fates; split = outputs_next p.fates f; appended = p.written }) w;
      telling = stops_then (telling_of options n f) (record {
        done = tellings_of options 1 p.fates;
        split = tellings_next options 1 n p.fates f p.count;
        appended
            = p.telling;
      }) t;
    }

    pub failed : (e : Error) → Handles options n line holds new tells news (Err e) → StopsAmongLines options unread held new told news
    failed e h = ⊎_elim (λ k. stopped new news k.0 k.1) (λ k. cut k.0 k.1 k.2 k.3) h

-- the exit of a `?`
pub at_error : (options : Options) (unread left held holds told tells : Option (List ℕ)) (r : Result Outcome Error) → IsErr r
    → StopsAmongLines options unread held holds told tells
    → Runs options unread left held holds told tells r
at_error options unread left held holds told tells (Ok x) e h = absurd (false≢true e)
at_error options unread left held holds told tells (Err x) e h = h
