-- What a check of lines by a schema answers.
use Rattle.std.proofs.Common.{◌≡◌, ◌≢◌, ℕ, ◌+◌, List, [], ◌∷◌, ◌++◌, Option, None, Some, Result}
use Rattle.std.proofs.Common.{Ok, Err, MatchResult, length, inl, inr, refl, sym, ap, ◌∙◌, subst, arith}
use Rattle.std.proofs.Common.{append_assoc, append-nil, suc, Bool, true, false, Vec, Global, ◌⊎◌, ◌==◌, vec_len}
use Rattle.tinyjson_c.proofs.Growing.{empty, first_more, length_more, not_empty}
use Rattle.tinyjson_c.proofs.Judging.{no_two, unchecked_bad}
use Rattle.tinyjson_c.proofs.SelectingLines.{line_stops}
use Rattle.tinyjson_c.specs.Buffer.{HasWritten, LacksRoom}
use Rattle.tinyjson_c.specs.Lines.{AreFirst, AreLines, IsStoppedAt, StopsAtLine, first_line, later_lines}
use Rattle.tinyjson_c.specs.Place.{length_place}
use Rattle.tinyjson_c.specs.Schema.{FindsText, IsBadSchema, IsFound, IsMisfit, IsSchemaBy, IsSchemaOf, IsSchemaTree, IsUncheckable, Puts}
use Rattle.tinyjson_c.specs.Schema.{misfit_text, unchecked_place, unchecked_status}
use Rattle.tinyjson_c.specs.SchemaLines.{AreJudged, DecidesLines, DecidesLinesBy, DecidesLinesTree, IsNotJudged, IsStoppedLine}
use Rattle.tinyjson_c.specs.SchemaLines.{IsUncheckedAt, JudgesLine, JudgesLines, report_of, reports_text}
use Rattle.tinyjson_c.specs.SelectLines.{IsLineAt}
use Rattle.tinyjson_c.specs.Stop.{IsStopped, IsTextOf}
use Rattle.tinyjson_c.specs.declared.place.TinyjsonPlace.{TinyjsonPlace}
use Rattle.tinyjson_c.specs.declared.schema.Unchecked.{Unchecked}
use Rattle.tinyjson_c.specs.declared.schema.Unchecked.TheVariants as un
use Rattle.tinyjson_c.specs.declared.schema.Verdict.{Verdict}
use Rattle.tinyjson_c.specs.declared.schema.Verdict.TheVariants.{Valid, Invalid, Misfit}
use Rattle.tinyjson_c.specs.declared.status.TheConstants.{BAD_SCHEMA, INVALID, NOT_UTF8, OK, OUT_OF_MEMORY}
use Rattle.tinyjson_c.specs.declared.status.TheConstants.{REFUSED, SCHEMA_FAULT, STEP_LIMIT, TOO_SMALL}
use Rattle.tinyjson_c.specs.declared.stop.Stop.{Stop}
use Rattle.tinyjson_c.specs.declared.stop.Stop.TheVariants as stop
use Rattle.tinyjson_c.specs.declared.valid_lines.UncheckedLine.{UncheckedLine}
use Rattle.tinyjson_grammar.specs.Characters.{line_feed}
use Rattle.tinyjson_grammar.specs.Tree.{Tree}
use Rattle.tinyjson_schema.specs.Reading.{tree_of}
use Rattle.tinyjson_schema.specs.declared.schema.Schema.{Schema}
use Rattle.tinyjson_schema_report.specs.declared.located.Located.{Located}

judged_more : (s : Tree) (limit : Option ℕ) (bytes rest : List ℕ) (ts : List Tree) (os : List (Option Located)) (t : Tree)
    (o : Option Located) → AreFirst limit bytes ts rest → AreJudged s bytes ts os → IsFound s (first_line rest) t o
    → AreJudged s bytes (ts ++ t ∷ []) (os ++ o ∷ [])
judged_more s limit bytes rest [] [] t o a h v = (subst (λ z. IsFound s (first_line z) t o) (sym a) v, tt)
judged_more s limit bytes rest [] (p ∷ os) t o a h v = absurd h
judged_more s limit bytes rest (u ∷ ts) [] t o a h v = absurd h
judged_more s limit bytes rest (u ∷ ts) (p ∷ os) t o a h v =
    (h.0, judged_more s limit (later_lines bytes) rest ts os t o a.2 h.1 v)

judged_length : (s : Tree) (bytes : List ℕ) (ts : List Tree) (os : List (Option Located)) → AreJudged s bytes ts os
    → length ts ≡ length os
judged_length s bytes [] [] h = refl
judged_length s bytes [] (p ∷ os) h = absurd h
judged_length s bytes (u ∷ ts) [] h = absurd h
judged_length s bytes (u ∷ ts) (p ∷ os) h = ap (λ n. suc n) (judged_length s (later_lines bytes) ts os h.1)

reports_more : (n : ℕ) (os : List (Option Located)) (o : Option Located)
    → reports_text n (os ++ o ∷ []) ≡ reports_text n os ++ report_of (length os + n) o
reports_more n [] o = let at : n ≡ 0 + n = omega arith in append-nil _ ∙ ap (λ k. report_of k o) at
reports_more n (p ∷ os) o =
    let at : length os + (n + 1) ≡ length (p ∷ os) + n = grind (arith) in
    ap (λ x. report_of n p ++ x) (reports_more (n + 1) os o ∙ ap (λ k. reports_text (n + 1) os ++ report_of k o) at)
    ∙ sym (append_assoc (report_of n p) (reports_text (n + 1) os) _)

-- these lines were read, and the reports of those that are not valid are written
abbrev pub HasJudged : Tree → Option ℕ → List ℕ → List ℕ → List ℕ → ℕ → Type 0
HasJudged s limit bytes rest reports number = (ts : List Tree) × AreFirst limit bytes ts rest
    × (os : List (Option Located)) × AreJudged s bytes ts os × (reports ≡ reports_text 1 os) × (number ≡ length ts)

pub one_more_judged : (s : Tree) (limit : Option ℕ) (bytes rest line later old new : List ℕ) (number : ℕ)
    → HasJudged s limit bytes rest old number → rest ≢ [] → line ≡ first_line rest → later ≡ later_lines rest
    → (t : Tree) × IsTextOf limit line t × (o : Option Located) × IsFound s line t o × (new ≡ old ++ report_of (number + 1) o)
    → HasJudged s limit bytes later new (number + 1)
one_more_judged s limit bytes rest line later old new number (ts, first, os, judged, done, counted) more is after (t, text, o, valid, w) =
    let P : List ℕ → Type 0 = λ z. AreFirst limit bytes (ts ++ t ∷ []) z in
    let Q : List ℕ → Type 0 = λ z. IsTextOf limit z t in
    let at : number + 1 ≡ length os + 1 = ap (λ n. n + 1) (counted ∙ judged_length s bytes ts os judged) in (
      ts ++ t ∷ [],
      subst P (sym after) (first_more limit bytes ts rest t first more (subst Q is text)),
      os ++ o ∷ [],
      judged_more s limit bytes rest ts os t o first judged (subst (λ z. IsFound s z t o) is valid),
      w ∙ (ap (λ x. x ++ report_of (number + 1) o) done ∙ (ap (λ k. reports_text 1 os ++ report_of k o) at ∙ sym (reports_more 1 os o))),
      ap (λ n. n + 1) counted ∙ sym (length_more ts t),
    )

-- why a call stops at a line, by what is known of the lines before it
module _ (s : Tree) (limit : Option ℕ) (text rest line reports : List ℕ) (number : ℕ) (h : HasJudged s limit text rest reports number)
    (more : rest ≢ []) (is : line ≡ first_line rest) where
  stopped_at : (e : Stop) → IsStopped limit line e → IsStoppedAt limit text number e
  stopped_at e k = record {
    trees = h.0;
    rest = rest;
    before = h.1;
    more = more;
    counted = h.5;
    stopped = subst (λ z. IsStopped limit z e) is k;
  }

  pub stopped_line : (u : Unchecked) → IsNotJudged limit s line u → IsStoppedLine limit s text number u
  stopped_line (un.Text (stop.Refused e)) k = stopped_at (stop.Refused e) k
  stopped_line (un.Text (stop.NotUtf8 n)) k = stopped_at (stop.NotUtf8 n) k
  stopped_line (un.Text stop.OutOfMemory) k = tt
  stopped_line (un.Schema e) k = absurd k
  stopped_line (un.StepLimit n) k = (
    line,
    record { trees = h.0; rest = rest; before = h.1; more = more; counted = h.5; is_line = is },
    k,
  )

-- all lines are read
pub all_judged : (s : Tree) (limit : Option ℕ) (text rest reports : List ℕ) (number : ℕ) → HasJudged s limit text rest reports number
    → rest ≡ []
    → (ts : List Tree) × AreLines limit text ts × (os : List (Option Located)) × AreJudged s text ts os × (reports ≡ reports_text 1 os)
all_judged s limit text rest reports number h none = (h.0, subst (AreFirst limit text h.0) none h.1, h.2, h.3, h.4)

-- reports of which a test finds whether there are any
pub no_reports : (reports : Vec ℕ Global) (is_empty : Bool) → is_empty ≡ (vec_len reports == 0) → is_empty ≡ true → reports.items ≡ []
no_reports reports is_empty e t = empty reports.items is_empty (e ∙ ap (λ n. n == 0) reports.ok.0) t

pub some_reports : (reports : Vec ℕ Global) (is_empty : Bool) → is_empty ≡ (vec_len reports == 0) → is_empty ≡ false → reports.items ≢ []
some_reports reports is_empty e f = not_empty reports.items is_empty (e ∙ ap (λ n. n == 0) reports.ok.0) f

-- the reports of all lines
pub judged_all_valid : (limit : Option ℕ) (s : Tree) (text reports : List ℕ) → reports ≡ []
    → (ts : List Tree) × AreLines limit text ts × (os : List (Option Located)) × AreJudged s text ts os × (reports ≡ reports_text 1 os)
    → DecidesLinesBy limit s text (Ok Valid)
judged_all_valid limit s text reports none (ts, l, os, j, w) = (ts, l, os, j, sym w ∙ none)

pub judged_all : (limit : Option ℕ) (s : Tree) (text : List ℕ) (reports : Vec ℕ Global) → reports.items ≢ []
    → (ts : List Tree) × AreLines limit text ts × (os : List (Option Located)) × AreJudged s text ts os
    × (reports.items ≡ reports_text 1 os)
    → DecidesLinesBy limit s text (Ok (Invalid reports))
judged_all limit s text reports some (ts, l, os, j, w) = (ts, l, os, j, w, some)

-- what is known by a schema is known by its tree
pub decides_lines_tree : (limit : Option ℕ) (s : Tree) (schema : Schema) (text : List ℕ) (r : Result Verdict UncheckedLine)
    → IsSchemaBy s schema → DecidesLinesBy limit (tree_of schema) text r → DecidesLinesTree limit s text r
decides_lines_tree limit s schema text (Ok Valid) (e, k) h = (k, subst (λ z. DecidesLinesBy limit z text (Ok Valid)) e h)
decides_lines_tree limit s schema text (Ok (Invalid r)) (e, k) h = (k, subst (λ z. DecidesLinesBy limit z text (Ok (Invalid r))) e h)
decides_lines_tree limit s schema text (Ok (Misfit p)) (e, k) h = absurd h
decides_lines_tree limit s schema text (Err l) (e, k) h = inl (k, subst (λ z. DecidesLinesBy limit z text (Err l)) e h)

-- the report of a line
pub judged_line : (limit : Option ℕ) (s : Tree) (line : List ℕ) (n : ℕ) (old new : List ℕ) (o : Option Located)
    → FindsText limit s line (Ok o) → new ≡ old ++ report_of n o → JudgesLine limit s line n old new (Ok tt)
judged_line limit s line n old new o (t, i, v) e = (t, i, o, v, e)

pub unreported_line : (limit : Option ℕ) (s : Tree) (line : List ℕ) (o : Option Located) → FindsText limit s line (Ok o)
    → IsNotJudged limit s line (un.Text stop.OutOfMemory)
unreported_line limit s line o (t, i, v) = i.0

-- why a line is not judged
pub unjudged : (limit : Option ℕ) (s : Tree) (line : List ℕ) (u : Unchecked) → FindsText limit s line (Err u) → IsNotJudged limit s line u
unjudged limit s line (un.Text e) h = h
unjudged limit s line (un.Schema e) h = h
unjudged limit s line (un.StepLimit n) h = h

-- what is known of a schema's tree is known of its text
pub decided_lines : (limit : Option ℕ) (text schema : List ℕ) (s : Tree) (r : Result Verdict UncheckedLine) → IsSchemaTree limit schema s
    → DecidesLinesTree limit s text r
    → MatchResult r (DecidesLines limit text schema) (λ l. IsUncheckedAt limit text schema l.number l.error)
decided_lines limit text schema s (Ok Valid) h (k, (ts, i, os, j, e)) =
    (os, record { by = s; trees = ts; is_schema = (h, k); are_lines = i; are_judged = j }, e)
decided_lines limit text schema s (Ok (Invalid r)) h (k, (ts, i, os, j, e, n)) =
    (os, record { by = s; trees = ts; is_schema = (h, k); are_lines = i; are_judged = j }, e, n)
decided_lines limit text schema s (Ok (Misfit p)) h (ks, f, e) = (ks, (s, h, f), e)
decided_lines limit text schema s (Err l) h (inl (k, i)) = by l.error i
  where
    by : (u : Unchecked) → IsStoppedLine limit s text l.number u → IsUncheckedAt limit text schema l.number u
    by (un.Text (stop.Refused e)) j = (s, (h, k), j)
    by (un.Text (stop.NotUtf8 n)) j = (s, (h, k), j)
    by (un.Text stop.OutOfMemory) j = tt
    by (un.Schema e) j = absurd j
    by (un.StepLimit n) j = (s, (h, k), j)
decided_lines limit text schema s (Err l) h (inr e) = subst (IsUncheckedAt limit text schema l.number) (sym e) h.1.0

-- what a call returns that checks all lines
module _ (limit : Option ℕ) (text schema old new : List ℕ) (place : TinyjsonPlace) (status : ℕ) where
  pub lines_valid : (v : Verdict) → DecidesLines limit text schema v → Puts v old new place status → status ≡ OK
      → (os : List (Option Located)) × JudgesLines limit text schema os × (reports_text 1 os ≡ []) × (place ≡ length_place 0 0)
  lines_valid Valid (os, j, e) (i, p, l) k = (os, j, e, p)
  lines_valid (Invalid r) d (inl (i, w)) k = no_two INVALID OK status refl i k
  lines_valid (Invalid r) d (inr (i, w, l)) k = no_two TOO_SMALL OK status refl i k
  lines_valid (Misfit p) d (inl (i, w)) k = no_two SCHEMA_FAULT OK status refl i k
  lines_valid (Misfit p) d (inr (i, w, l)) k = no_two TOO_SMALL OK status refl i k

  pub lines_invalid : (v : Verdict) → DecidesLines limit text schema v → Puts v old new place status → status ≡ INVALID
      → (os : List (Option Located)) × JudgesLines limit text schema os × (reports_text 1 os ≢ [])
      × HasWritten (reports_text 1 os) old new place
  lines_invalid Valid d (i, p, l) k = no_two OK INVALID status refl i k
  lines_invalid (Invalid r) (os, j, e, n) (inl (i, w)) k = (os, j, (λ z. n (e ∙ z)), subst (λ b. HasWritten b old new place) e w)
  lines_invalid (Invalid r) d (inr (i, w, l)) k = no_two TOO_SMALL INVALID status refl i k
  lines_invalid (Misfit p) d (inl (i, w)) k = no_two SCHEMA_FAULT INVALID status refl i k
  lines_invalid (Misfit p) d (inr (i, w, l)) k = no_two TOO_SMALL INVALID status refl i k

  pub lines_fault : (v : Verdict) → DecidesLines limit text schema v → Puts v old new place status → status ≡ SCHEMA_FAULT
      → (ks : List (List ℕ)) × IsMisfit limit schema ks × HasWritten (misfit_text ks) old new place
  lines_fault Valid d (i, p, l) k = no_two OK SCHEMA_FAULT status refl i k
  lines_fault (Invalid r) d (inl (i, w)) k = no_two INVALID SCHEMA_FAULT status refl i k
  lines_fault (Invalid r) d (inr (i, w, l)) k = no_two TOO_SMALL SCHEMA_FAULT status refl i k
  lines_fault (Misfit p) (ks, m, e) (inl (i, w)) k = (ks, m, subst (λ b. HasWritten b old new place) e w)
  lines_fault (Misfit p) d (inr (i, w, l)) k = no_two TOO_SMALL SCHEMA_FAULT status refl i k

  pub lines_small : (v : Verdict) → DecidesLines limit text schema v → Puts v old new place status → status ≡ TOO_SMALL
      → ((os : List (Option Located)) × JudgesLines limit text schema os × LacksRoom (reports_text 1 os) old place)
      ⊎ ((ks : List (List ℕ)) × IsMisfit limit schema ks × LacksRoom (misfit_text ks) old place)
  lines_small Valid d (i, p, l) k = no_two OK TOO_SMALL status refl i k
  lines_small (Invalid r) d (inl (i, w)) k = no_two INVALID TOO_SMALL status refl i k
  lines_small (Invalid r) (os, j, e, n) (inr (i, w, l)) k = inl (os, j, subst (λ b. LacksRoom b old place) e w)
  lines_small (Misfit p) d (inl (i, w)) k = no_two SCHEMA_FAULT TOO_SMALL status refl i k
  lines_small (Misfit p) (ks, m, e) (inr (i, w, l)) k = inr (ks, m, subst (λ b. LacksRoom b old place) e w)

-- what a call returns that stops
module _ (limit : Option ℕ) (text schema : List ℕ) (number status : ℕ) (p : TinyjsonPlace) where
  pub line_bad : (u : Unchecked) → IsUncheckedAt limit text schema number u → status ≡ unchecked_status u → p ≡ unchecked_place number u
      → status ≡ BAD_SCHEMA → IsBadSchema limit schema p
  line_bad (un.Text (stop.Refused e)) h i j k = no_two REFUSED BAD_SCHEMA status refl i k
  line_bad (un.Text (stop.NotUtf8 n)) h i j k = no_two NOT_UTF8 BAD_SCHEMA status refl i k
  line_bad (un.Text stop.OutOfMemory) h i j k = no_two OUT_OF_MEMORY BAD_SCHEMA status refl i k
  line_bad (un.Schema s) h i j k = unchecked_bad limit text schema number status p (un.Schema s) h i j k
  line_bad (un.StepLimit n) h i j k = no_two STEP_LIMIT BAD_SCHEMA status refl i k

  pub line_limit : (u : Unchecked) → IsUncheckedAt limit text schema number u → status ≡ unchecked_status u → p ≡ unchecked_place number u
      → status ≡ STEP_LIMIT
      → (n : ℕ) × (line : List ℕ) × IsLineAt limit text n line × (nested : ℕ) × IsUncheckable limit line schema nested
      × (p ≡ length_place n nested)
  line_limit (un.Text (stop.Refused e)) h i j k = no_two REFUSED STEP_LIMIT status refl i k
  line_limit (un.Text (stop.NotUtf8 n)) h i j k = no_two NOT_UTF8 STEP_LIMIT status refl i k
  line_limit (un.Text stop.OutOfMemory) h i j k = no_two OUT_OF_MEMORY STEP_LIMIT status refl i k
  line_limit (un.Schema (stop.Refused e)) h i j k = no_two BAD_SCHEMA STEP_LIMIT status refl i k
  line_limit (un.Schema (stop.NotUtf8 n)) h i j k = no_two BAD_SCHEMA STEP_LIMIT status refl i k
  line_limit (un.Schema stop.OutOfMemory) h i j k = no_two OUT_OF_MEMORY STEP_LIMIT status refl i k
  line_limit (un.StepLimit n) (b, is, (line, at, exceeded)) i j k = (number, line, at, n, (b, is, exceeded), j)

  pub line_unchecked : (u : Unchecked) → IsUncheckedAt limit text schema number u → status ≡ unchecked_status u
      → p ≡ unchecked_place number u → ¬ (status ≡ BAD_SCHEMA) → ¬ (status ≡ STEP_LIMIT) → ¬ (status ≡ OUT_OF_MEMORY)
      → ((s : Tree) × IsSchemaOf limit schema s) × StopsAtLine limit text status p
  line_unchecked (un.Text (stop.Refused e)) (b, is, h) i j bad steps memory =
      ((b, is), line_stops limit text [] number status p (stop.Refused e) h i j)
  line_unchecked (un.Text (stop.NotUtf8 n)) (b, is, h) i j bad steps memory =
      ((b, is), line_stops limit text [] number status p (stop.NotUtf8 n) h i j)
  line_unchecked (un.Text stop.OutOfMemory) h i j bad steps memory = absurd (memory i)
  line_unchecked (un.Schema (stop.Refused e)) h i j bad steps memory = absurd (bad i)
  line_unchecked (un.Schema (stop.NotUtf8 n)) h i j bad steps memory = absurd (bad i)
  line_unchecked (un.Schema stop.OutOfMemory) h i j bad steps memory = absurd (memory i)
  line_unchecked (un.StepLimit n) h i j bad steps memory = absurd (steps i)
