-- A handler's steps, one after the other.
use Rattle.std.proofs.Common.{◌≡◌, ℕ, suc, ◌+◌, Bool, true, false, ◌&&◌, List, [], ◌∷◌, ◌++◌, cond, length, map, Option, None, Some, IfSome}
use Rattle.std.proofs.Common.{Result, Ok, Err, ⊎_elim, inl, inr, refl, sym, ap, ◌∙◌, subst, append_assoc, append-nil, length-append, arith}
use Rattle.std.proofs.KnownBytes.{Appends-nil, Appends-trans, Appends-kept}
use Rattle.std.proofs.lemmas.Bool.{false≢true, le-ltb, lt-ltb}
use Rattle.std.specs.Io.KnownBytes.{Appends, Keeps}
use Rattle.std.specs.Result.{IsErr}
use Rattle.std.specs.declared.io.Error.{Error}
use Rattle.tinyjson.proofs.Callers.{stop, stops_then, written_same}
use Rattle.tinyjson_lines.specs.Each.{Handles, HandlesLine, Step, Handled, go_on, lines_of, written_of, reported_of}
use Rattle.tinyjson_lines.specs.Each.{HandlesAll, StopsAmongSteps, RunsOver, given_by}
use Rattle.tinyjson_lines.specs.Lines.{content, LinesRead, AllRead}
use Rattle.tinyjson_lines.specs.Within.{IsWithin, LinesGiven, AllGiven, PassesOver, ReadsWithin, given_line, given_lines}
use Rattle.tinyjson.specs.Written.{Written, WrittenPart}
use Rattle.tinyjson_lines.specs.declared.within.LineRead.{LineRead}
use Rattle.tinyjson_lines.specs.declared.within.LineRead.TheVariants.{Whole, TooLong, End}

-- ---- the lines that are given

none_given : (max : Option ℕ) (o : Option (List ℕ)) → LinesGiven max o o []
none_given max None = tt
none_given max (Some xs) = refl

given_next : (max : Option ℕ) (unread left after : Option (List ℕ)) (given : List (Option (List ℕ))) (line : Option (List ℕ))
    → LinesGiven max unread left given → LinesGiven max left after (line ∷ []) → LinesGiven max unread after (given ++ line ∷ [])
given_next max None left after given line h k = tt
given_next max (Some xs) None after given line h k = absurd h
given_next max (Some xs) (Some ys) None given line h k = absurd k
given_next max (Some xs) (Some ys) (Some zs) given line h k =
    h ∙ (ap (λ ls. given ++ ls) k ∙ sym (append_assoc given (line ∷ []) (given_lines max zs)))

all_given : (max : Option ℕ) (unread left after : Option (List ℕ)) (given : List (Option (List ℕ))) → LinesGiven max unread left given
    → AllGiven max left after [] → AllGiven max unread after given
all_given max None left after given h k = tt
all_given max (Some xs) None after given h k = absurd h
all_given max (Some xs) (Some ys) after given h k = (h ∙ (ap (λ ls. given ++ ls) k.0 ∙ append-nil given), k.1)

first_given : (max : Option ℕ) (unread left : Option (List ℕ)) (given : List (Option (List ℕ))) → LinesGiven max unread left given
    → IfSome unread (λ xs. (more : List (Option (List ℕ))) × (given_lines max xs ≡ given ++ more))
first_given max None left given h = tt
first_given max (Some xs) None given h = absurd h
first_given max (Some xs) (Some ys) given h = (given_lines max ys, h)

-- what is given of lines that are read
within_given : (max : Option ℕ) (line : List ℕ) → IsWithin max line → given_line max line ≡ Some line
within_given None line h = refl
within_given (Some m) line h = ap (λ b. cond b None (Some line)) (le-ltb m (length (content line)) h)

whole_given : (max : Option ℕ) (unread left : Option (List ℕ)) (line : List ℕ) → LinesRead unread left (line ∷ []) → IsWithin max line
    → LinesGiven max unread left (Some line ∷ [])
whole_given max None left line h w = tt
whole_given max (Some xs) None line h w = absurd h
whole_given max (Some xs) (Some ys) line h w =
    ap (map (given_line max)) h ∙ ap (λ o. o ∷ given_lines max ys) (within_given max line w)

long_given : (m : ℕ) (unread left : Option (List ℕ)) → PassesOver m unread left → LinesGiven (Some m) unread left (None ∷ [])
long_given m None left h = tt
long_given m (Some xs) None h = absurd h.1
long_given m (Some xs) (Some ys) h =
    ap (map (given_line (Some m))) h.1
    ∙ ap (λ b. cond b None (Some h.0) ∷ given_lines (Some m) ys) (lt-ltb m (length (content h.0)) h.2)

pub none_left : (max : Option ℕ) (unread left : Option (List ℕ)) → AllRead unread left [] → AllGiven max unread left []
none_left max None left h = tt
none_left max (Some xs) left h = (ap (map (given_line max)) h.0, h.1)

-- ---- steps

and_right : (a b : Bool) → (a && b) ≡ true → (a ≡ true) × (b ≡ true)
and_right true b h = (refl, h)
and_right false b h = absurd (false≢true h)

module _ {H : Type 0} where
  abbrev one : Option (List ℕ) → List ℕ → List ℕ → Bool → H → Step H
  one line written words b after = record { line = line; written = written; reported = words; goes_on = b; after = after }

  lines_next : (ss : List (Step H)) (s : Step H) → lines_of (ss ++ s ∷ []) ≡ lines_of ss ++ s.line ∷ []
  lines_next [] s = refl
  lines_next (t ∷ ss) s = ap (λ l. t.line ∷ l) (lines_next ss s)

  written_next : (ss : List (Step H)) (s : Step H) → written_of (ss ++ s ∷ []) ≡ written_of ss ++ s.written
  written_next [] s = append-nil s.written
  written_next (t ∷ ss) s = ap (λ l. t.written ++ l) (written_next ss s) ∙ sym (append_assoc t.written (written_of ss) s.written)

  reported_next : (ss : List (Step H)) (s : Step H) → reported_of (ss ++ s ∷ []) ≡ reported_of ss ++ s.reported
  reported_next [] s = append-nil s.reported
  reported_next (t ∷ ss) s = ap (λ l. t.reported ++ l) (reported_next ss s) ∙ sym (append_assoc t.reported (reported_of ss) s.reported)

  -- where all before go on, the last one decides
  goes_next : (ss : List (Step H)) (s : Step H) → go_on ss ≡ true → go_on (ss ++ s ∷ []) ≡ s.goes_on
  goes_next [] s h = and_true s.goes_on
    where
      and_true : (b : Bool) → (b && true) ≡ b
      and_true true = refl
      and_true false = refl
  goes_next (t ∷ ss) s h =
      let both = and_right t.goes_on (go_on ss) h in
      ap (λ b. b && go_on (ss ++ s ∷ [])) both.0 ∙ goes_next ss s both.1

  module _ (handles : Handles H) where
    handled_next : (old mid new : H) (n m : ℕ) (ss : List (Step H)) (line : Option (List ℕ)) (written words : List ℕ) (b : Bool)
        → Handled handles old n ss mid → go_on ss ≡ true → m ≡ n + length ss → handles mid m line written words b new
        → Handled handles old n (ss ++ one line written words b new ∷ []) new
    handled_next old mid new n m [] line written words b h on e k =
        let is : m ≡ n = omega (arith, e) in (
          subst (λ i. handles old i line written words b new) is
              (subst (λ s. handles s m line written words b new) (sym h) k),
          inr refl,
          refl,
        )
    handled_next old mid new n m (t ∷ ss) line written words b h on e k =
        let both = and_right t.goes_on (go_on ss) on in
        let is : m ≡ suc n + length ss = omega (arith, e) in
        (h.0, inl both.0, handled_next t.after mid new (suc n) m ss line written words b h.2 both.1 is k)

    -- Before the line of this number: the lines before it are handled, and what is to be written and reported of them is.
    pub record Progress (max : Option ℕ) (old now : H) (unread left held holds told tells : Option (List ℕ)) (number : ℕ) : Type 0 where
      pub steps : List (Step H)
      pub handled : Handled handles old 1 steps now
      pub on : go_on steps ≡ true
      pub given : LinesGiven max unread left (lines_of steps)
      pub written : Appends held holds (written_of steps)
      pub reported : Appends told tells (reported_of steps)
      pub count : number ≡ 1 + length steps

    pub begun : (max : Option ℕ) (old : H) (unread held told : Option (List ℕ)) → Progress max old old unread unread held held told told 1
    begun max old unread held told = record {
      steps = [];
      handled = refl;
      on = refl;
      given = none_given max unread;
      written = Appends-nil held;
      reported = Appends-nil told;
      count = refl;
    }

    all_written : (held holds : Option (List ℕ)) (bytes : List ℕ) → Appends held holds bytes → Written held holds bytes []
    all_written held holds bytes w = record { done = bytes; split = sym (append-nil bytes); appended = w }

    module _ (max : Option ℕ) (old now : H) (unread left held holds told tells : Option (List ℕ)) (n : ℕ)
        (p : Progress max old now unread left held holds told tells n) where
      -- nothing more was written or reported
      pub stopped : (new news : Option (List ℕ)) → Keeps holds new → Keeps tells news
          → StopsAmongSteps handles max old unread held new told news
      stopped new news k l = record {
        steps = p.steps;
        last = now;
        handled = p.handled;
        first = first_given max unread left (lines_of p.steps) p.given;
        written = stop (written_same (all_written held holds (written_of p.steps) p.written) k);
        reported = stop (written_same (all_written told tells (reported_of p.steps) p.reported) l);
      }

      -- no line is left
      pub ended : (after new : Option (List ℕ)) → AllGiven max left after [] → Keeps holds new
          → HandlesAll handles max old now unread after held new told tells true
      ended after new end k = record {
        steps = p.steps;
        handled = p.handled;
        reaches = all_given max unread left after (lines_of p.steps) p.given end;
        is = sym p.on;
        written = Appends-kept held holds new (written_of p.steps) p.written k;
        reported = p.reported;
      }

      module _ (after : Option (List ℕ)) (line : Option (List ℕ)) (read : LinesGiven max left after (line ∷ [])) where
        lines_more : (s : Step H) → s.line ≡ line → LinesGiven max unread after (lines_of (p.steps ++ s ∷ []))
        lines_more s e =
            subst (LinesGiven max unread after) (sym (lines_next p.steps s))
            (subst (λ l. LinesGiven max unread after (lines_of p.steps ++ l ∷ [])) (sym e)
            (given_next max unread left after (lines_of p.steps) line p.given read))

        written_more : (s : Step H) (new : Option (List ℕ)) → Appends holds new s.written
            → Appends held new (written_of (p.steps ++ s ∷ []))
        written_more s new w = subst (Appends held new) (sym (written_next p.steps s))
            (Appends-trans held holds new (written_of p.steps) s.written p.written w)

        reported_more : (s : Step H) (new : Option (List ℕ)) → Appends tells new s.reported
            → Appends told new (reported_of (p.steps ++ s ∷ []))
        reported_more s new w = subst (Appends told new) (sym (reported_next p.steps s))
            (Appends-trans told tells new (reported_of p.steps) s.reported p.reported w)

        -- one more is handled, and the run goes on
        pub next : (mid : H) (new news : Option (List ℕ)) → HandlesLine handles now mid n line holds new tells news (Ok true)
            → Progress max old mid unread after held new told news (n + 1)
        next mid new news h =
            let s = one line h.0 h.1 true mid in
            record {
              steps = p.steps ++ s ∷ [];
              handled = handled_next old now mid 1 n p.steps line h.0 h.1 true p.handled p.on p.count h.2;
              on = goes_next p.steps s p.on;
              given = lines_more s refl;
              written = written_more s new h.3;
              reported = reported_more s news h.4;
              count = omega (arith, p.count, length-append p.steps (s ∷ []));
            }

        -- the handler ends the run
        pub last : (mid : H) (new news : Option (List ℕ)) → HandlesLine handles now mid n line holds new tells news (Ok false)
            → HandlesAll handles max old mid unread after held new told news false
        last mid new news h =
            let s = one line h.0 h.1 false mid in
            record {
              steps = p.steps ++ s ∷ [];
              handled = handled_next old now mid 1 n p.steps line h.0 h.1 false p.handled p.on p.count h.2;
              reaches = lines_more s refl;
              is = sym (goes_next p.steps s p.on);
              written = written_more s new h.3;
              reported = reported_more s news h.4;
            }

        cut : (new news : Option (List ℕ)) (written words : List ℕ) (b : Bool) (mid : H) → handles now n line written words b mid
            → WrittenPart holds new written → WrittenPart tells news words → StopsAmongSteps handles max old unread held new told news
        cut new news written words b mid h w t =
            let s = one line written words b mid in
            record {
              steps = p.steps ++ s ∷ [];
              last = mid;
              handled = handled_next old now mid 1 n p.steps line written words b p.handled p.on p.count h;
              first = first_given max unread after (lines_of (p.steps ++ s ∷ [])) (lines_more s refl);
              written = stops_then written
                  (record { done = written_of p.steps; split = written_next p.steps s; appended = p.written }) w;
              reported = stops_then words
                  (record { done = reported_of p.steps; split = reported_next p.steps s; appended = p.reported }) t;
            }

        -- the handler failed
        pub failed : (mid : H) (new news : Option (List ℕ)) (e : Error) → HandlesLine handles now mid n line holds new tells news (Err e)
            → StopsAmongSteps handles max old unread held new told news
        failed mid new news e h = ⊎_elim (λ k. stopped new news k.0 k.1) (λ k. cut new news k.0 k.1 k.2 k.3 k.4 k.5 k.6) h

    -- the exit of a `?`
    pub at_error : (max : Option ℕ) (old new : H) (unread left held holds told tells : Option (List ℕ)) (r : Result Bool Error) → IsErr r
        → StopsAmongSteps handles max old unread held holds told tells
        → RunsOver handles max old new unread left held holds told tells r
    at_error max old new unread left held holds told tells (Ok x) e h = absurd (false≢true e)
    at_error max old new unread left held holds told tells (Err x) e h = h

-- the line that a handler is given
pub given_read : (max : Option ℕ) (left after : Option (List ℕ)) (read : LineRead) (line slice : List ℕ) (given : Option (List ℕ))
    → ¬ (read ≡ End) → slice ≡ line → given ≡ given_by read slice → ReadsWithin max left after line (Ok read)
    → LinesGiven max left after (given ∷ [])
given_read max left after Whole line slice given n s e h =
    subst (λ l. LinesGiven max left after (l ∷ [])) (sym (e ∙ ap Some s)) (whole_given max left after line h.0 h.1)
given_read max left after (TooLong m) line slice given n s e h =
    subst (λ o. LinesGiven o left after (given ∷ [])) (sym h.0)
    (subst (λ l. LinesGiven (Some m) left after (l ∷ [])) (sym e) (long_given m left after h.1))
given_read max left after End line slice given n s e h = absurd (n refl)
