-- What is returned where a text is told to events, from what the reader did.
use Rattle.std.proofs.Common.{◌≡◌, IsTrue, ℕ, true, List, [], ◌++◌, Result, Ok, Err, OnOk, IfErr, Option, Some, None, MatchResult}
use Rattle.std.proofs.Common.{◌⊎◌, inl, inr, refl, sym, ap, ◌∙◌, subst}
use Rattle.std.specs.Prelude.{All}
use Rattle.std.specs.Char.{IsScalar}
use Rattle.tinyjson.specs.Error.{error_position}
use Rattle.tinyjson.specs.Events.{BreaksOff, IsBrokenOff, MeetsLiteral, OnParse, TellsEvents, without_events}
use Rattle.tinyjson.specs.private.Building.{Meets, Tells, TellsAll, break_kind}
use Rattle.tinyjson.specs.declared.parser.error.JsonParseError.{JsonParseError}
use Rattle.tinyjson.specs.declared.parser.error.ReadError.{ReadError}
use Rattle.tinyjson.specs.declared.parser.error.ReadError.TheVariants.{Parse, Events}
use Rattle.tinyjson_grammar.proofs.Callers.{refuses}
use Rattle.tinyjson_grammar.specs.Grammar.{IsText, IsAccepted}
use Rattle.tinyjson_grammar.specs.Machine.{awaited, Next, next, stop, refused, run, strictly}
use Rattle.tinyjson_grammar.specs.Position.{advance, origin}
use Rattle.tinyjson_grammar.specs.Refusal.{begins_growth, IsRefusal, MayGrow, RefusalSays}
use Rattle.tinyjson_grammar.specs.Tree.{Tree}
use Rattle.tinyjson_grammar.specs.declared.error.JsonParseErrorKind.{JsonParseErrorKind}
use Rattle.tinyjson_grammar.specs.declared.error.JsonParseErrorKind.TheVariants.{OutOfMemory}
use Rattle.tinyjson_tokens.proofs.Callers.{Comes_outcome, Leads_trans, Refuses_after}
use Rattle.tinyjson_tokens.specs.Source.{Sight, Whites}
use Rattle.tinyjson_tokens.specs.Steps.{Halts, Leads, Refuses}
use Rattle.tinyjson_grammar.specs.Characters.{BeginsLiteral}
use Rattle.tinyjson.proofs.Reading.Memory.{grows_at, white_list}
use Rattle.tinyjson.proofs.Reading.Parse.{all_front, answered_value, held_interrupted, refusal_says, refused_list}

-- ---- what the source gives begins with a value

module _ {S T X : Type 0} (sight : Sight S) (p q : S) (c : ℕ) where
  pub literal_meets : (r : Result T (JsonParseErrorKind × Option X × T)) → Whites sight p q → sight.shows q (Some c) → BeginsLiteral c
      → IfErr r (λ k. k.0 ≡ OutOfMemory → Meets sight p)
  literal_meets (Ok v) w s h = tt
  literal_meets (Err k) w s h = λ o zs g.
      let x = w.takes.gives zs g in
      let f = sight.first q x.0 c s x.2 in
      inr (record {
        before = w.taken;
        first = c;
        more = f.0;
        whole = x.1 ∙ ap (λ ys. w.taken ++ ys) f.1;
        white = white_list w.taken w.white;
        begins = h;
      })

  pub grows_meets : (r : Result T (JsonParseErrorKind × Option X × T)) → Whites sight p q → sight.shows q (Some c)
      → IfErr r (λ k. k.0 ≡ OutOfMemory → IsTrue (begins_growth c)) → IfErr r (λ k. k.0 ≡ OutOfMemory → Meets sight p)
  grows_meets (Ok v) w s h = tt
  grows_meets (Err k) w s h = λ o zs g. inl (grows_at sight p q c w s (h o) zs g)

-- the rest of a text
pub Tells_after : {S E X : Type 0} (sight : Sight S) (limit : Option ℕ) (is : E → Tree → Type 0) (p q z : S) {n m : Next}
    (r : Result E (JsonParseErrorKind × Option X × E)) → Leads sight limit p n q m → Tells is sight limit q m r z → Tells is sight limit p n r z
Tells_after sight limit is p q z (Ok e) l h = (h.0, Leads_trans sight limit p q z l h.1, h.2)
Tells_after sight limit is p q z (Err w) l h = Refuses_after sight limit p q z w.0 l h

-- ---- the whole call

module _ {S E X : Type 0} (sight : Sight S) (limit : Option ℕ) (is : E → Tree → Type 0) where
  -- What a reader that stood at p took of xs, and what it returned.
  pub record Heard (xs : List ℕ) (p : S) (r : Result E (ReadError X)) (q : S) : Type 0 where
    pub consumed : List ℕ
    pub rest : List ℕ
    pub whole : xs ≡ consumed ++ rest
    pub gives : sight.gives q rest
    pub moves : sight.place q ≡ advance (sight.place p) consumed
    pub answer : MatchResult r
        (λ e. (rest ≡ []) × (t : Tree) × IsText limit xs t × is e t)
        (λ w. OnParse w (λ e. (error_position e ≡ sight.place q) × (¬ (e.kind ≡ OutOfMemory) → RefusalSays limit e.kind consumed rest)))
    pub refused : IfErr r (λ w. OnParse w (λ e. ¬ (e.kind ≡ OutOfMemory) → ¬ IsAccepted limit xs))
    pub broken_off : IfErr r (λ w. BreaksOff w → IsBrokenOff limit consumed rest)

  -- the machine refuses the text
  heard_refusal : (p q : S) (w : ReadError X) (xs : List ℕ) → sight.gives p xs → All IsScalar xs
      → OnParse w (λ e. error_position e ≡ sight.place q) → Leads sight limit p (next [] awaited) q (stop (break_kind w) true)
      → Heard xs p (Err w) q
  heard_refusal p q w xs g a h l =
      let x = l.gives xs g in
      let ran : run (strictly limit) [] awaited (l.taken ++ x.0) ≡ refused (break_kind w) x.0 =
      Comes_outcome limit (next [] awaited) (stop (break_kind w) true) l.taken x.0 x.3 in
      let s = refuses limit l.taken x.0 (subst (All IsScalar) x.1 a) (break_kind w) ran in
      let n = refusal_says limit (break_kind w) l.taken x.0 s in
      record {
        consumed = l.taken;
        rest = x.0;
        whole = x.1;
        gives = x.2;
        moves = l.moves;
        answer = answer (λ k. RefusalSays limit k l.taken x.0) w h n;
        refused = turned_away w (λ f. subst (λ ys. ¬ IsAccepted limit ys) (sym x.1) (refused_list limit (break_kind w) l.taken x.0 f n));
        broken_off = λ o. let z = subst (λ k. IsRefusal limit k l.taken x.0) (broken w o) s in absurd z.says;
      }
    where
      broken : (w : ReadError X) → BreaksOff w → break_kind w ≡ OutOfMemory
      broken (Parse e) o = o
      broken (Events x) o = refl

      answer : (P : JsonParseErrorKind → Type 0) (w : ReadError X) → OnParse w (λ e. error_position e ≡ sight.place q) → P (break_kind w)
          → OnParse w (λ e. (error_position e ≡ sight.place q) × (¬ (e.kind ≡ OutOfMemory) → P e.kind))
      answer P (Parse e) h n = (h, λ f. n)
      answer P (Events x) h n = tt

      turned_away : {Q : Type 0} (w : ReadError X) → (¬ (break_kind w ≡ OutOfMemory) → Q) → OnParse w (λ e. ¬ (e.kind ≡ OutOfMemory) → Q)
      turned_away (Parse e) f = f
      turned_away (Events x) f = tt

  -- memory ran out, or an event returned an error
  heard_break : (p q : S) (w : ReadError X) (xs : List ℕ) → sight.gives p xs → All IsScalar xs
      → OnParse w (λ e. error_position e ≡ sight.place q) → break_kind w ≡ OutOfMemory → Halts sight limit p (next [] awaited) q
      → Meets sight p → Heard xs p (Err w) q
  heard_break p q w xs g a h o l m =
      let x = l.gives xs g in
      record {
        consumed = l.taken;
        rest = x.0;
        whole = x.1;
        gives = x.2;
        moves = l.moves;
        answer = answer (λ e. RefusalSays limit e.kind l.taken x.0) w h o;
        refused = turned_away (¬ IsAccepted limit xs) w o;
        broken_off = λ _. record {
          place = held_interrupted limit l.taken (all_front l.taken x.0 (subst (All IsScalar) x.1 a)) x.3;
          begun = subst (λ ys. MayGrow ys ⊎ MeetsLiteral ys) x.1 (m xs g);
        };
      }
    where
      answer : (Q : JsonParseError → Type 0) (w : ReadError X) → OnParse w (λ e. error_position e ≡ sight.place q) → break_kind w ≡ OutOfMemory
          → OnParse w (λ e. (error_position e ≡ sight.place q) × (¬ (e.kind ≡ OutOfMemory) → Q e))
      answer Q (Parse e) h o = (h, λ n. absurd (n o))
      answer Q (Events x) h o = tt

      turned_away : (Q : Type 0) (w : ReadError X) → break_kind w ≡ OutOfMemory → OnParse w (λ e. ¬ (e.kind ≡ OutOfMemory) → Q)
      turned_away Q (Parse e) o = λ n. absurd (n o)
      turned_away Q (Events x) o = tt

  heard_error : (p q : S) (w : ReadError X) (xs : List ℕ) → sight.gives p xs → All IsScalar xs
      → OnParse w (λ e. error_position e ≡ sight.place q) → Refuses sight limit p (next [] awaited) (break_kind w) q
      → (break_kind w ≡ OutOfMemory → Meets sight p) → Heard xs p (Err w) q
  heard_error p q w xs g a h (inl l) m = heard_refusal p q w xs g a h l
  heard_error p q w xs g a h (inr l) m = heard_break p q w xs g a h l.0 l.1 (m l.0)

  pub heard : (p q : S) (r : Result E (ReadError X × E)) → TellsAll is sight limit p r q → OnOk r (sight.shows q None)
      → IfErr r (λ w. break_kind w.0 ≡ OutOfMemory → Meets sight p) → (xs : List ℕ) → sight.gives p xs → All IsScalar xs
      → Heard xs p (without_events r) q
  heard p q (Ok v) l s m xs g a =
      let w = answered_value sight limit xs (λ e. (t : Tree) × IsText limit xs t × is e t) p q v l.0 (λ i. (l.0, i, l.2)) l.1 s g a in
      record {
        consumed = w.consumed;
        rest = w.rest;
        whole = w.whole;
        gives = w.gives;
        moves = w.moves;
        answer = (w.answer.0, w.answer.1.0, w.answer.1.1, w.answer.1.2);
        refused = tt;
        broken_off = tt;
      }
  heard p q (Err w) l s m xs g a = heard_error p q w.0 xs g a l.0 l.1 m

  -- of a source that stands at the origin
  pub heard_text : (p q : S) (xs : List ℕ) (r : Result E (ReadError X)) → sight.place p ≡ origin → Heard xs p r q → TellsEvents is limit xs r
  heard_text p q xs (Ok v) o h = record {
    consumed = h.consumed;
    rest = h.rest;
    whole = h.whole;
    answer = h.answer;
    refused = tt;
    broken_off = tt;
  }
  heard_text p q xs (Err w) o h = record {
    consumed = h.consumed;
    rest = h.rest;
    whole = h.whole;
    answer = answer (λ e. ¬ (e.kind ≡ OutOfMemory) → RefusalSays limit e.kind h.consumed h.rest) w h.answer;
    refused = h.refused;
    broken_off = h.broken_off;
  }
    where
      answer : (Q : JsonParseError → Type 0) (w : ReadError X) → OnParse w (λ e. (error_position e ≡ sight.place q) × Q e)
          → OnParse w (λ e. (error_position e ≡ advance origin h.consumed) × Q e)
      answer Q (Parse e) a = (a.0 ∙ h.moves ∙ ap (λ x. advance x h.consumed) o, a.1)
      answer Q (Events x) a = tt
