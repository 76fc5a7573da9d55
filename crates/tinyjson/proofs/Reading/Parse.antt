-- What `parse` returns, from what the reader did.
use Rattle.std.proofs.Common.{◌≡◌, IsTrue, ℕ, zero, suc, Bool, true, false, List, [], ◌∷◌, ◌++◌, Result, Ok, Err, OnOk, IfErr, Option, Some}
use Rattle.std.proofs.Common.{None, MatchResult, refl, sym, ap, ◌∙◌, subst, append-nil, arith, ⊎_elim}
use Rattle.std.specs.Prelude.{All}
use Rattle.std.proofs.lemmas.Bool.{and_parts}
use Rattle.std.specs.Char.{IsScalar}
use Rattle.std.specs.Str.{all_scalars}
use lib.Utf8.{scalar as is_scalar}
use Rattle.tinyjson.specs.Parser.{Parser, Parses, ParsesText, ChecksText}
use Rattle.tinyjson_tokens.specs.Source.{Sight}
use Rattle.tinyjson.specs.Error.{error_position}
use Rattle.tinyjson_grammar.specs.Grammar.{IsText, IsAccepted}
use Rattle.tinyjson_grammar.specs.Machine.{Frame, Phase, State, Next, next, stop, awaited, finished, accepted, refused, step, end, run}
use Rattle.tinyjson_grammar.specs.Machine.{reach, reach_on, strictly}
use Rattle.tinyjson_grammar.specs.Position.{advance, origin}
use Rattle.tinyjson_tokens.specs.Steps.{IsNext, IsLate, IsHeld, Leads, Halts, Refuses, after_all, onward, outcome}
use Rattle.tinyjson.specs.private.Steps.{ReadsText, FindsText, Grows}
use Rattle.tinyjson_grammar.specs.Refusal.{IsInterrupted, IsRefusal, MayGrow, RefusalSays}
use Rattle.tinyjson_grammar.specs.Tree.{Tree}
use Rattle.tinyjson.specs.View.{view}
use Rattle.tinyjson.specs.declared.parser.error.JsonParseError.{JsonParseError}
use Rattle.tinyjson_grammar.specs.declared.error.JsonParseErrorKind.{JsonParseErrorKind}
use Rattle.tinyjson_grammar.specs.declared.error.JsonParseErrorKind.TheVariants as kind
use Rattle.tinyjson.specs.declared.value.JsonValue.{JsonValue}
use Rattle.tinyjson_grammar.proofs.Callers.{ranges, interrupted, interrupted_late, accepts, refuses}
use Rattle.tinyjson_tokens.proofs.Callers.{Comes_outcome}

end_finished : (limit : Option ℕ) (t : Tree) → outcome limit (next [] (finished t)) [] ≡ accepted t
unfolding run end
end_finished limit t = refl

-- ---- out of memory

module _ (limit : Option ℕ) where
  after_stop : (k : JsonParseErrorKind) (b : Bool) (xs : List ℕ) → IsNext (after_all limit (stop k b) xs) → ⊥
  after_stop k b [] h = h
  after_stop k b (c ∷ cs) h = after_stop k false cs h

  after_reach : (fs : List Frame) (p : Phase) (xs : List ℕ) → IsNext (after_all limit (next fs p) xs)
      → (s : State) × (reach (strictly limit) fs p xs ≡ Some s) × (after_all limit (next fs p) xs ≡ next s.frames s.phase)
  unfolding reach
  after_reach fs p [] h = (record { frames = fs; phase = p }, refl, refl)
  after_reach fs p (c ∷ cs) h = go (step (strictly limit) fs p c) h (λ gs q. after_reach gs q cs)
    where
      go : (n : Next) → IsNext (after_all limit n cs)
          → ((gs : List Frame) (q : Phase) → IsNext (after_all limit (next gs q) cs) → (s : State)
          × (reach (strictly limit) gs q cs ≡ Some s) × (after_all limit (next gs q) cs ≡ next s.frames s.phase))
          → (s : State) × (reach_on (λ gs q. reach (strictly limit) gs q cs) n ≡ Some s) × (after_all limit n cs ≡ next s.frames s.phase)
      go (next gs q) h more = more gs q h
      go (stop k b) h more = absurd (after_stop k b cs h)

pub all_front : (xs ys : List ℕ) → All IsScalar (xs ++ ys) → All IsScalar xs
all_front [] ys h k d l = absurd (omega (arith, l))
all_front (x ∷ xs) ys h zero d l = h 0 d (omega arith)
all_front (x ∷ xs) ys h (suc k) d l = all_front xs ys (λ j e m. h (suc j) e (omega (arith, m))) k d (omega (arith, l))

pub all_rest : (xs ys : List ℕ) → All IsScalar (xs ++ ys) → All IsScalar ys
all_rest [] ys h = h
all_rest (x ∷ xs) ys h = all_rest xs ys (λ j e m. h (suc j) e (omega (arith, m)))

module _ (limit : Option ℕ) where
  pub held_interrupted : (xs : List ℕ) → All IsScalar xs → IsHeld limit (next [] awaited) xs → IsInterrupted limit xs
  held_interrupted xs a h = go h.late h.whole h.ends
    where
      go : (late : List ℕ) → xs ≡ h.front ++ late → IsLate limit (after_all limit (next [] awaited) h.front) late → IsInterrupted limit xs
      go [] e s =
          let same : xs ≡ h.front = e ∙ append-nil h.front in
          let r = after_reach limit [] awaited h.front h.goes in
          subst (IsInterrupted limit) (sym same) (interrupted ranges limit h.front (subst (All IsScalar) same a) r.0 r.1)
      go (c ∷ []) e s =
          let r = after_reach limit [] awaited h.front h.goes in
          let b = subst (All IsScalar) e a in
          let stops = sym (ap (λ z. onward limit z c) r.2) ∙ s in
          subst (IsInterrupted limit) (sym e) (interrupted_late ranges limit h.front (all_front h.front (c ∷ []) b) r.0 r.1 c
          (all_rest h.front (c ∷ []) b 0 0 (omega arith)) stops)
      go (c ∷ d ∷ ds) e s = absurd s

  pub refusal_says : (k : JsonParseErrorKind) (used rest : List ℕ) → IsRefusal limit k used rest → RefusalSays limit k used rest
  refusal_says kind.OutOfMemory used rest r = absurd r.says
  refusal_says k used rest r = r

  pub refused_list : (k : JsonParseErrorKind) (used rest : List ℕ) → ¬ (k ≡ kind.OutOfMemory) → RefusalSays limit k used rest
      → ¬ IsAccepted limit (used ++ rest)
  refused_list kind.OutOfMemory used rest n r = absurd (n refl)
  refused_list k used rest n r = r.refused

-- an error that does not say that memory ran out: the characters have no tree
pub refused_answer : {T : Type 0} (limit : Option ℕ) (xs used rest : List ℕ) (P : T → Type 0) (Q : JsonParseError → Type 0)
    (r : Result T JsonParseError) → xs ≡ used ++ rest
    → MatchResult r P (λ e. Q e × RefusalSays limit e.kind used rest) → IfErr r (λ e. ¬ (e.kind ≡ kind.OutOfMemory) → ¬ IsAccepted limit xs)
refused_answer limit xs used rest P Q (Ok v) whole a = tt
refused_answer limit xs used rest P Q (Err e) whole a = λ n. subst (λ ys. ¬ IsAccepted limit ys) (sym whole)
    (refused_list limit e.kind used rest n a.1)

-- ---- the whole call

module _ {S T : Type 0} (sight : Sight S) (limit : Option ℕ) (xs : List ℕ) (P : T → Type 0) where
  -- What a reader that stood at p took of xs, and what it returned.
  pub record Answered (p : S) (r : Result T JsonParseError) (q : S) : Type 0 where
    pub consumed : List ℕ
    pub rest : List ℕ
    pub whole : xs ≡ consumed ++ rest
    pub gives : sight.gives q rest
    pub moves : sight.place q ≡ advance (sight.place p) consumed
    pub answer : MatchResult r
        (λ v. (rest ≡ []) × P v)
        (λ e. (error_position e ≡ sight.place q) × RefusalSays limit e.kind consumed rest)

  answered_error : (p q : S) (e : JsonParseError) → sight.gives p xs → All IsScalar xs → error_position e ≡ sight.place q
      → Refuses sight limit p (next [] awaited) e.kind q
      → (e.kind ≡ kind.OutOfMemory → Grows sight p) → Answered p (Err e) q
  answered_error p q e g a h r m = ⊎_elim determined wanted r
    where
      determined : Leads sight limit p (next [] awaited) q (stop e.kind true) → Answered p (Err e) q
      determined l =
          let x = l.gives xs g in
          let ran : run (strictly limit) [] awaited (l.taken ++ x.0) ≡ refused e.kind x.0 =
          Comes_outcome limit (next [] awaited) (stop e.kind true) l.taken x.0 x.3 in
          let s = refuses limit l.taken x.0 (subst (All IsScalar) x.1 a) e.kind ran in
          record {
            consumed = l.taken;
            rest = x.0;
            whole = x.1;
            gives = x.2;
            moves = l.moves;
            answer = (h, refusal_says limit e.kind l.taken x.0 s);
          }

      wanted : (e.kind ≡ kind.OutOfMemory) × Halts sight limit p (next [] awaited) q → Answered p (Err e) q
      wanted w =
          let x = w.1.gives xs g in
          let i = held_interrupted limit w.1.taken (all_front w.1.taken x.0 (subst (All IsScalar) x.1 a)) x.3 in
          let n = subst MayGrow x.1 (m w.0 xs g) in
          record {
            consumed = w.1.taken;
            rest = x.0;
            whole = x.1;
            gives = x.2;
            moves = w.1.moves;
            answer = (h, subst (λ k. RefusalSays limit k w.1.taken x.0) (sym w.0) (i, n));
          }

  -- of each tree that the characters have, what is promised of the value holds
  pub answered_value : (p q : S) (v : T) (t : Tree) → (IsText limit xs t → P v)
      → Leads sight limit p (next [] awaited) q (next [] (finished t))
      → sight.shows q None → sight.gives p xs → All IsScalar xs → Answered p (Ok v) q
  answered_value p q v t k l s g a =
      let x = l.gives xs g in
      let n = sight.none q x.0 s x.2 in
      let w = next [] (finished t) in
      let ran : run (strictly limit) [] awaited xs ≡ accepted t = ap (outcome limit (next [] awaited)) x.1
      ∙ Comes_outcome limit (next [] awaited) w l.taken x.0 x.3 ∙ ap (outcome limit w) n ∙ end_finished limit t in
      record {
        consumed = l.taken;
        rest = x.0;
        whole = x.1;
        gives = x.2;
        moves = l.moves;
        answer = (n, k ((accepts limit xs a t).0 ran));
      }

module _ {S : Type 0} (sight : Sight S) (limit : Option ℕ) where
  pub answered : (p q : S) (r : Result JsonValue JsonParseError) → ReadsText sight limit p r q → OnOk r (sight.shows q None)
      → IfErr r (λ e. e.kind ≡ kind.OutOfMemory → Grows sight p)
      → (xs : List ℕ) → sight.gives p xs → All IsScalar xs → Answered sight limit xs (λ v. IsText limit xs (view v)) p r q
  answered p q (Ok v) l s m xs g a = answered_value sight limit xs _ p q v (view v) (λ i. i) l s g a
  answered p q (Err e) l s m xs g a = answered_error sight limit xs _ p q e g a l.0 l.1 m

  pub checked : {T : Type 0} (p q : S) (r : Result T JsonParseError) → FindsText sight limit p r q → OnOk r (sight.shows q None)
      → IfErr r (λ e. e.kind ≡ kind.OutOfMemory → Grows sight p)
      → (xs : List ℕ) → sight.gives p xs → All IsScalar xs → Answered sight limit xs (λ _. IsAccepted limit xs) p r q
  checked p q (Ok v) l s m xs g a = answered_value sight limit xs _ p q v l.0 (λ i. (l.0, i)) l.1 s g a
  checked p q (Err e) l s m xs g a = answered_error sight limit xs _ p q e g a l.0 l.1 m

  -- of a source that stands at the origin
  module _ {T : Type 0} (p q : S) (xs : List ℕ) (P : T → Type 0) (h : sight.place p ≡ origin) where
    answer_text : (r : Result T JsonParseError) (a : Answered sight limit xs P p r q) → MatchResult r (λ v. (a.rest ≡ []) × P v)
        (λ e. (error_position e ≡ advance origin a.consumed) × RefusalSays limit e.kind a.consumed a.rest)
    answer_text (Ok v) a = a.answer
    answer_text (Err e) a = (a.answer.0 ∙ a.moves ∙ ap (λ x. advance x a.consumed) h, a.answer.1)

  pub answered_text : (p q : S) (xs : List ℕ) (r : Result JsonValue JsonParseError) → sight.place p ≡ origin
      → Answered sight limit xs (λ v. IsText limit xs (view v)) p r q → ParsesText limit xs r
  answered_text p q xs r h a = record {
    consumed = a.consumed;
    rest = a.rest;
    whole = a.whole;
    answer = answer_text p q xs _ h r a;
    refused = refused_answer limit xs a.consumed a.rest _ _ r a.whole a.answer;
  }

  pub checked_text : (p q : S) (xs : List ℕ) (r : Result (Unit {0}) JsonParseError) → sight.place p ≡ origin
      → Answered sight limit xs (λ _. IsAccepted limit xs) p r q → ChecksText limit xs r
  checked_text p q xs r h a = record {
    consumed = a.consumed;
    rest = a.rest;
    whole = a.whole;
    answer = answer_text p q xs _ h r a;
    refused = refused_answer limit xs a.consumed a.rest _ _ r a.whole a.answer;
  }

pub all_are_scalars : (xs : List ℕ) → IsTrue (all_scalars xs) → All IsScalar xs
all_are_scalars [] h k d l = absurd (omega (arith, l))
all_are_scalars (x ∷ xs) h zero d l = (and_parts (is_scalar x) (all_scalars xs) h).0
all_are_scalars (x ∷ xs) h (suc k) d l = all_are_scalars xs (and_parts (is_scalar x) (all_scalars xs) h).1 k d (omega (arith, l))

-- a new parser over a text
pub parses_text : {S : Type 0} {steps : S → Option ℕ → S → Type 0} (limit : Option ℕ) (xs : List ℕ) (p q : Parser S)
    (r : Result JsonValue JsonParseError)
    → p.position ≡ origin → p.limit ≡ limit → Parses steps p xs r q → ParsesText limit xs r
parses_text limit xs p q (Ok v) h n a = record {
  consumed = a.consumed;
  rest = a.rest;
  whole = a.whole;
  answer =
      subst (λ l. (a.rest ≡ []) × IsText l xs (view v)) n a.answer;
  refused = tt;
}
parses_text limit xs p q (Err e) h n a = record {
  consumed = a.consumed;
  rest = a.rest;
  whole = a.whole;
  answer = (a.answer.0 ∙ a.position ∙ ap (λ x. advance x a.consumed) h, subst (λ l. RefusalSays l e.kind a.consumed a.rest) n a.answer.1);
  refused = subst (λ l. ¬ (e.kind ≡ kind.OutOfMemory) → ¬ IsAccepted l xs) n a.refused;
}
