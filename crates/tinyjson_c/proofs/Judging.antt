-- What a check by a schema answers.
use Rattle.std.proofs.Common.{◌≡◌, ◌≢◌, ◌⊎◌, ℕ, Bool, true, false, List, Option, None, Some}
use Rattle.std.proofs.Common.{Result, Ok, Err, MatchResult, inl, inr, refl, sym, ap, ◌∙◌, subst}
use Rattle.std.proofs.Common.{[], ◌++◌, ◌==◌, Vec, Global}
use Rattle.std.proofs.lemmas.Bool.{eqb-false}
use Rattle.tinyjson_c.proofs.Stopping.{stops}
use Rattle.tinyjson_c.specs.Buffer.{HasWritten, LacksRoom}
use Rattle.tinyjson_c.specs.Place.{length_place, memory_place}
use Rattle.tinyjson_c.specs.Schema.{Decides, DecidesBy, DecidesTree, IsBadSchema, IsMisfit, IsSchemaOf, IsSchemaTree, IsUncheckable}
use Rattle.tinyjson_c.specs.Schema.{Exceeds, ExceedsText, IsUnchecked, IsValidText, step_limit}
use Rattle.tinyjson_c.specs.Schema.{FindsText, FindsTree, HasPlace, IsFaultyAt, IsNoSchema, IsSchemaBy, PutsBytes}
use Rattle.tinyjson_c.specs.Schema.{Puts, Violates, misfit_text, report_text, schema_status, unchecked_place, unchecked_status}
use Rattle.tinyjson_c.specs.Stop.{IsStopped, IsTextOf, Stops, stop_place}
use Rattle.tinyjson_c.specs.declared.place.TinyjsonPlace.{TinyjsonPlace}
use Rattle.tinyjson_c.specs.declared.schema.NoSchema.{NoSchema}
use Rattle.tinyjson_c.specs.declared.schema.NoSchema.TheVariants as no
use Rattle.tinyjson_c.specs.declared.schema.Unchecked.{Unchecked}
use Rattle.tinyjson_c.specs.declared.schema.Unchecked.TheVariants as un
use Rattle.tinyjson_c.specs.declared.schema.Verdict.{Verdict}
use Rattle.tinyjson_c.specs.declared.schema.Verdict.TheVariants.{Valid, Invalid, Misfit}
use Rattle.tinyjson_c.specs.declared.status.TheConstants.{BAD_SCHEMA, INVALID, NOT_UTF8, OK, OUT_OF_MEMORY}
use Rattle.tinyjson_c.specs.declared.status.TheConstants.{REFUSED, SCHEMA_FAULT, STEP_LIMIT, TOO_SMALL}
use Rattle.tinyjson_c.specs.declared.stop.Stop.{Stop}
use Rattle.tinyjson_c.specs.declared.stop.Stop.TheVariants as stop
use Rattle.tinyjson_grammar.specs.Tree.{Tree}
use Rattle.tinyjson_schema.specs.Nested.{Nests}
use Rattle.tinyjson_schema.specs.Reading.{tree_of}
use Rattle.tinyjson_schema.specs.declared.schema.Schema.{Schema}
use Rattle.tinyjson_schema_report.specs.declared.located.Located.{Located}

-- what is known of a text's tree is known of the text
pub finds_text : (limit : Option ℕ) (s t : Tree) (text : List ℕ) (r : Result (Option Located) Unchecked)
    → IsTextOf limit text t → FindsTree s text t r → FindsText limit s text r
finds_text limit s t text (Ok o) i h = (t, i, h)
finds_text limit s t text (Err (un.Text e)) i h = subst (IsStopped limit text) (sym h) i.0
finds_text limit s t text (Err (un.Schema e)) i h = absurd h
finds_text limit s t text (Err (un.StepLimit n)) i h = (t, i, h)

-- more schemas are nested than the limit of the call
pub nests : (s t : Tree) (nested : ℕ) → nested ≡ step_limit → Nests s nested s t → Exceeds s t nested
nests s t nested e h = inr (e, subst (λ n. Nests s n s t) e h)

-- why a tree is no schema, by the place of a fault
pub faulty : (s : Tree) (ks : List (List ℕ)) (n : NoSchema) → IsFaultyAt s ks → HasPlace ks n → IsNoSchema s n
faulty s ks (no.Misfit place) h e = (ks, h, e)
faulty s ks no.OutOfMemory h e = tt

-- the bytes are written, or do not fit
pub puts_bytes : (bytes old new : List ℕ) (written put status : ℕ) (place : TinyjsonPlace) → (put ≡ OK) ⊎ (put ≡ TOO_SMALL)
    → (put ≡ OK → HasWritten bytes old new place) → (put ≡ TOO_SMALL → LacksRoom bytes old place) → (put ≢ OK → new ≡ old)
    → (put ≡ OK → status ≡ written) → (put ≢ OK → status ≡ put) → PutsBytes bytes written old new place status
puts_bytes bytes old new written put status place (inl e) w l s a b = inl (a e, w e)
puts_bytes bytes old new written put status place (inr e) w l s a b =
    let other : put ≢ OK = λ k. cc in inr (b other ∙ e, l e, s other)

-- what is found is decided
pub found_valid : (limit : Option ℕ) (s : Tree) (text : List ℕ) → FindsText limit s text (Ok None) → DecidesBy limit s text (Ok Valid)
found_valid limit s text h = h

pub found_invalid : (limit : Option ℕ) (s : Tree) (text : List ℕ) (report : Vec ℕ Global) (l : Located)
    → report.items ≡ report_text l.place.line l → FindsText limit s text (Ok (Some l)) → DecidesBy limit s text (Ok (Invalid report))
found_invalid limit s text report l e (t, i, w) = (t, i, l, w, e)

pub found_without_memory : (limit : Option ℕ) (s : Tree) (text : List ℕ) (o : Option Located) → FindsText limit s text (Ok o)
    → DecidesBy limit s text (Err (un.Text stop.OutOfMemory))
found_without_memory limit s text o (t, i, w) = i.0

pub not_found : (limit : Option ℕ) (s : Tree) (text : List ℕ) (u : Unchecked) → FindsText limit s text (Err u)
    → DecidesBy limit s text (Err u)
not_found limit s text (un.Text e) h = h
not_found limit s text (un.Schema e) h = h
not_found limit s text (un.StepLimit n) h = h

-- what is known by a schema is known by its tree
pub decides_tree : (limit : Option ℕ) (s : Tree) (schema : Schema) (text : List ℕ) (r : Result Verdict Unchecked) → IsSchemaBy s schema
    → DecidesBy limit (tree_of schema) text r → DecidesTree limit s text r
decides_tree limit s schema text (Ok Valid) (e, k) h = (k, subst (λ z. DecidesBy limit z text (Ok Valid)) e h)
decides_tree limit s schema text (Ok (Invalid r)) (e, k) h = (k, subst (λ z. DecidesBy limit z text (Ok (Invalid r))) e h)
decides_tree limit s schema text (Ok (Misfit p)) (e, k) h = absurd h
decides_tree limit s schema text (Err (un.Text x)) (e, k) h = (k, h)
decides_tree limit s schema text (Err (un.Schema x)) (e, k) h = absurd h
decides_tree limit s schema text (Err (un.StepLimit n)) (e, k) h = (k, subst (λ z. ExceedsText limit z text n) e h)

-- what is known of a schema's tree is known of its text
pub decided : (limit : Option ℕ) (text schema : List ℕ) (s : Tree) (r : Result Verdict Unchecked) → IsSchemaTree limit schema s
    → DecidesTree limit s text r → MatchResult r (Decides limit text schema) (IsUnchecked limit text schema)
decided limit text schema s (Ok Valid) h (k, (t, i, v)) =
    record { by = s; tree = t; is_schema = (h, k); is_text = i; is_valid = v }
decided limit text schema s (Ok (Invalid r)) h (k, (t, i, v, w, e)) =
    (v, record { by = s; tree = t; is_schema = (h, k); is_text = i; found = w }, e)
decided limit text schema s (Ok (Misfit p)) h (ks, f, e) = (ks, (s, h, f), e)
decided limit text schema s (Err (un.Text (stop.Refused e))) h (k, i) = (s, (h, k), i)
decided limit text schema s (Err (un.Text (stop.NotUtf8 n))) h (k, i) = (s, (h, k), i)
decided limit text schema s (Err (un.Text stop.OutOfMemory)) h d = tt
decided limit text schema s (Err (un.Schema e)) h i = subst (IsStopped limit schema) (sym i) h.1.0
decided limit text schema s (Err (un.StepLimit n)) h (k, i) = (s, (h, k), i)

-- a status is not both of two
pub no_two : {P : Type 0} (m n s : ℕ) → (m == n) ≡ false → s ≡ m → s ≡ n → P
no_two m n s d i k = absurd (eqb-false m n d (sym i ∙ k))

-- what a call returns that has a verdict
module _ (limit : Option ℕ) (text schema old new : List ℕ) (place : TinyjsonPlace) (status : ℕ) where
  pub verdict_valid : (v : Verdict) → Decides limit text schema v → Puts v old new place status → status ≡ OK
      → IsValidText limit text schema × (place ≡ length_place 0 0)
  verdict_valid Valid d (i, p, l) k = (d, p)
  verdict_valid (Invalid r) d (inl (i, w)) k = no_two INVALID OK status refl i k
  verdict_valid (Invalid r) d (inr (i, w, l)) k = no_two TOO_SMALL OK status refl i k
  verdict_valid (Misfit p) d (inl (i, w)) k = no_two SCHEMA_FAULT OK status refl i k
  verdict_valid (Misfit p) d (inr (i, w, l)) k = no_two TOO_SMALL OK status refl i k

  pub verdict_invalid : (v : Verdict) → Decides limit text schema v → Puts v old new place status → status ≡ INVALID
      → (l : Located) × Violates limit text schema l × HasWritten (report_text l.place.line l) old new place
  verdict_invalid Valid d (i, p, l) k = no_two OK INVALID status refl i k
  verdict_invalid (Invalid r) d (inl (i, w)) k = (d.0, d.1, subst (λ b. HasWritten b old new place) d.2 w)
  verdict_invalid (Invalid r) d (inr (i, w, l)) k = no_two TOO_SMALL INVALID status refl i k
  verdict_invalid (Misfit p) d (inl (i, w)) k = no_two SCHEMA_FAULT INVALID status refl i k
  verdict_invalid (Misfit p) d (inr (i, w, l)) k = no_two TOO_SMALL INVALID status refl i k

  pub verdict_fault : (v : Verdict) → Decides limit text schema v → Puts v old new place status → status ≡ SCHEMA_FAULT
      → (ks : List (List ℕ)) × IsMisfit limit schema ks × HasWritten (misfit_text ks) old new place
  verdict_fault Valid d (i, p, l) k = no_two OK SCHEMA_FAULT status refl i k
  verdict_fault (Invalid r) d (inl (i, w)) k = no_two INVALID SCHEMA_FAULT status refl i k
  verdict_fault (Invalid r) d (inr (i, w, l)) k = no_two TOO_SMALL SCHEMA_FAULT status refl i k
  verdict_fault (Misfit p) d (inl (i, w)) k = (d.0, d.1, subst (λ b. HasWritten b old new place) d.2 w)
  verdict_fault (Misfit p) d (inr (i, w, l)) k = no_two TOO_SMALL SCHEMA_FAULT status refl i k

  pub verdict_small : (v : Verdict) → Decides limit text schema v → Puts v old new place status → status ≡ TOO_SMALL
      → ((l : Located) × Violates limit text schema l × LacksRoom (report_text l.place.line l) old place)
      ⊎ ((ks : List (List ℕ)) × IsMisfit limit schema ks × LacksRoom (misfit_text ks) old place)
  verdict_small Valid d (i, p, l) k = no_two OK TOO_SMALL status refl i k
  verdict_small (Invalid r) d (inl (i, w)) k = no_two INVALID TOO_SMALL status refl i k
  verdict_small (Invalid r) d (inr (i, w, l)) k = inl (d.0, d.1, subst (λ b. LacksRoom b old place) d.2 w)
  verdict_small (Misfit p) d (inl (i, w)) k = no_two SCHEMA_FAULT TOO_SMALL status refl i k
  verdict_small (Misfit p) d (inr (i, w, l)) k = inr (d.0, d.1, subst (λ b. LacksRoom b old place) d.2 w)

-- a verdict has one of four statuses
module _ (old new : List ℕ) (place : TinyjsonPlace) (status : ℕ) where
  pub verdict_one : {P : Type 0} (v : Verdict) → Puts v old new place status → ¬ (status ≡ OK) → ¬ (status ≡ INVALID)
      → ¬ (status ≡ SCHEMA_FAULT) → ¬ (status ≡ TOO_SMALL) → P
  verdict_one Valid (i, p, l) ok invalid fault small = absurd (ok i)
  verdict_one (Invalid r) (inl (i, w)) ok invalid fault small = absurd (invalid i)
  verdict_one (Invalid r) (inr (i, w, l)) ok invalid fault small = absurd (small i)
  verdict_one (Misfit p) (inl (i, w)) ok invalid fault small = absurd (fault i)
  verdict_one (Misfit p) (inr (i, w, l)) ok invalid fault small = absurd (small i)

  pub verdict_other : {P : Type 0} (v : Verdict) → Puts v old new place status → (s : ℕ) → (s == OK) ≡ false → (s == INVALID) ≡ false
      → (s == SCHEMA_FAULT) ≡ false → (s == TOO_SMALL) ≡ false → status ≡ s → P
  verdict_other v h s ok invalid fault small k =
      verdict_one v h (no_two s OK status ok k) (no_two s INVALID status invalid k) (no_two s SCHEMA_FAULT status fault k)
      (no_two s TOO_SMALL status small k)

  pub verdict_left : (v : Verdict) → Puts v old new place status → ¬ (status ≡ INVALID) → ¬ (status ≡ SCHEMA_FAULT) → new ≡ old
  verdict_left Valid (i, p, l) invalid fault = l
  verdict_left (Invalid r) (inl (i, w)) invalid fault = absurd (invalid i)
  verdict_left (Invalid r) (inr (i, w, l)) invalid fault = l
  verdict_left (Misfit p) (inl (i, w)) invalid fault = absurd (fault i)
  verdict_left (Misfit p) (inr (i, w, l)) invalid fault = l

-- what is not checked has one of five statuses
pub unchecked_other : {P : Type 0} (u : Unchecked) (status : ℕ) → status ≡ unchecked_status u → (s : ℕ) → (s == REFUSED) ≡ false
    → (s == NOT_UTF8) ≡ false → (s == OUT_OF_MEMORY) ≡ false → (s == BAD_SCHEMA) ≡ false → (s == STEP_LIMIT) ≡ false → status ≡ s → P
unchecked_other (un.Text (stop.Refused e)) status i s refused utf8 memory bad steps k = no_two s REFUSED status refused k i
unchecked_other (un.Text (stop.NotUtf8 n)) status i s refused utf8 memory bad steps k = no_two s NOT_UTF8 status utf8 k i
unchecked_other (un.Text stop.OutOfMemory) status i s refused utf8 memory bad steps k = no_two s OUT_OF_MEMORY status memory k i
unchecked_other (un.Schema (stop.Refused e)) status i s refused utf8 memory bad steps k = no_two s BAD_SCHEMA status bad k i
unchecked_other (un.Schema (stop.NotUtf8 n)) status i s refused utf8 memory bad steps k = no_two s BAD_SCHEMA status bad k i
unchecked_other (un.Schema stop.OutOfMemory) status i s refused utf8 memory bad steps k = no_two s OUT_OF_MEMORY status memory k i
unchecked_other (un.StepLimit n) status i s refused utf8 memory bad steps k = no_two s STEP_LIMIT status steps k i

-- why a text is not checked
module _ (limit : Option ℕ) (text schema : List ℕ) (number status : ℕ) (p : TinyjsonPlace) where
  pub unchecked_bad : (u : Unchecked) → IsUnchecked limit text schema u → status ≡ unchecked_status u → p ≡ unchecked_place number u
      → status ≡ BAD_SCHEMA → IsBadSchema limit schema p
  unchecked_bad (un.Text (stop.Refused e)) h i j k = no_two REFUSED BAD_SCHEMA status refl i k
  unchecked_bad (un.Text (stop.NotUtf8 n)) h i j k = no_two NOT_UTF8 BAD_SCHEMA status refl i k
  unchecked_bad (un.Text stop.OutOfMemory) h i j k = no_two OUT_OF_MEMORY BAD_SCHEMA status refl i k
  unchecked_bad (un.Schema (stop.Refused e)) h i j k =
      (REFUSED, stops limit schema (stop.Refused e) 1 REFUSED p h refl j, no_two REFUSED OUT_OF_MEMORY REFUSED refl refl)
  unchecked_bad (un.Schema (stop.NotUtf8 n)) h i j k =
      (NOT_UTF8, stops limit schema (stop.NotUtf8 n) 1 NOT_UTF8 p h refl j, no_two NOT_UTF8 OUT_OF_MEMORY NOT_UTF8 refl refl)
  unchecked_bad (un.Schema stop.OutOfMemory) h i j k = no_two OUT_OF_MEMORY BAD_SCHEMA status refl i k
  unchecked_bad (un.StepLimit n) h i j k = no_two STEP_LIMIT BAD_SCHEMA status refl i k

  pub unchecked_limit : (u : Unchecked) → IsUnchecked limit text schema u → status ≡ unchecked_status u → p ≡ unchecked_place number u
      → status ≡ STEP_LIMIT → (n : ℕ) × IsUncheckable limit text schema n × (p ≡ length_place number n)
  unchecked_limit (un.Text (stop.Refused e)) h i j k = no_two REFUSED STEP_LIMIT status refl i k
  unchecked_limit (un.Text (stop.NotUtf8 n)) h i j k = no_two NOT_UTF8 STEP_LIMIT status refl i k
  unchecked_limit (un.Text stop.OutOfMemory) h i j k = no_two OUT_OF_MEMORY STEP_LIMIT status refl i k
  unchecked_limit (un.Schema (stop.Refused e)) h i j k = no_two BAD_SCHEMA STEP_LIMIT status refl i k
  unchecked_limit (un.Schema (stop.NotUtf8 n)) h i j k = no_two BAD_SCHEMA STEP_LIMIT status refl i k
  unchecked_limit (un.Schema stop.OutOfMemory) h i j k = no_two OUT_OF_MEMORY STEP_LIMIT status refl i k
  unchecked_limit (un.StepLimit n) h i j k = (n, h, j)

  pub unchecked_memory : (u : Unchecked) → status ≡ unchecked_status u → p ≡ unchecked_place number u → status ≡ OUT_OF_MEMORY
      → (n : ℕ) × (p ≡ memory_place n)
  unchecked_memory (un.Text (stop.Refused e)) i j k = no_two REFUSED OUT_OF_MEMORY status refl i k
  unchecked_memory (un.Text (stop.NotUtf8 n)) i j k = no_two NOT_UTF8 OUT_OF_MEMORY status refl i k
  unchecked_memory (un.Text stop.OutOfMemory) i j k = (number, j)
  unchecked_memory (un.Schema (stop.Refused e)) i j k = no_two BAD_SCHEMA OUT_OF_MEMORY status refl i k
  unchecked_memory (un.Schema (stop.NotUtf8 n)) i j k = no_two BAD_SCHEMA OUT_OF_MEMORY status refl i k
  unchecked_memory (un.Schema stop.OutOfMemory) i j k = (1, j)
  unchecked_memory (un.StepLimit n) i j k = no_two STEP_LIMIT OUT_OF_MEMORY status refl i k

  pub unchecked_stops : (u : Unchecked) → IsUnchecked limit text schema u → status ≡ unchecked_status u → p ≡ unchecked_place number u
      → ¬ (status ≡ BAD_SCHEMA) → ¬ (status ≡ STEP_LIMIT) → ¬ (status ≡ OUT_OF_MEMORY)
      → ((s : Tree) × IsSchemaOf limit schema s) × Stops limit text number status p
  unchecked_stops (un.Text (stop.Refused e)) h i j bad steps memory =
      ((h.0, h.1), stops limit text (stop.Refused e) number status p h.2 i j)
  unchecked_stops (un.Text (stop.NotUtf8 n)) h i j bad steps memory =
      ((h.0, h.1), stops limit text (stop.NotUtf8 n) number status p h.2 i j)
  unchecked_stops (un.Text stop.OutOfMemory) h i j bad steps memory = absurd (memory i)
  unchecked_stops (un.Schema (stop.Refused e)) h i j bad steps memory = absurd (bad i)
  unchecked_stops (un.Schema (stop.NotUtf8 n)) h i j bad steps memory = absurd (bad i)
  unchecked_stops (un.Schema stop.OutOfMemory) h i j bad steps memory = absurd (memory i)
  unchecked_stops (un.StepLimit n) h i j bad steps memory = absurd (steps i)
