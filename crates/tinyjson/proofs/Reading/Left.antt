-- What the events hold after an error.
use Rattle.std.proofs.Common.{◌≡◌, ◌∙◌, List, [], true, Option, Some, None, IsSome, Result, Ok, Err, IfErr, is_err, inl, inr}
use Rattle.std.proofs.Common.{refl, sym, subst, true≢false}
use Rattle.tinyjson_grammar.specs.Tree.{Tree}
use Rattle.tinyjson_grammar.specs.Machine.{Frame, Next}
use Rattle.tinyjson_grammar.specs.declared.error.JsonParseErrorKind.{JsonParseErrorKind}
use Rattle.tinyjson_grammar.specs.declared.error.JsonParseErrorKind.TheVariants.{OutOfMemory}
use Rattle.tinyjson.specs.Events.{HoldsSome}
use Rattle.tinyjson.specs.private.Building.{awaited_of, Completed, Completes, IsOpen, KeepsEvents, Leaves, LeavesSome, Stands}
use Rattle.tinyjson.specs.declared.parser.nest.Nest.{Nest}
use Rattle.tinyjson.specs.declared.parser.nest.Progress.{Progress}
use Rattle.tinyjson.specs.declared.parser.nest.Progress.TheVariants.{Complete}

-- nothing was told
pub same_events : {T B X : Type 0} (r : Result T JsonParseErrorKind) (old new : Nest B X) → new.events ≡ old.events
    → new.stopped ≡ old.stopped → KeepsEvents r old new
same_events (Ok v) old new e s = tt
same_events (Err k) old new e s = inl (e, s)

-- an event returned an error
pub completed_keeps : {B X : Type 0} (put : Result (Unit {0}) X) (r : Result Progress JsonParseErrorKind) (old now new : Nest B X)
    → Completed put r now new → KeepsEvents r old new
completed_keeps put (Ok v) old now new h = tt
completed_keeps put (Err k) old now new h = inr h

pub err_if : {T F Q : Type 0} (r : Result T F) → is_err r ≡ true → IfErr r (λ _. Q) → Q
err_if (Ok v) e h = absurd (true≢false (sym e))
err_if (Err x) e h = h

module _ {T E X : Type 0} (holds : E → List Frame → Type 0) (is : E → Tree → Type 0) (r : Result T JsonParseErrorKind) where
  pub left : (s : Nest E X) → HoldsSome holds is s.events → s.stopped ≡ None → LeavesSome holds is r s
  left s h n = by r
    where
      by : (r : Result T JsonParseErrorKind) → LeavesSome holds is r s
      by (Ok v) = tt
      by (Err k) = subst (λ o. Leaves holds is k o s.events) (sym n) h

  -- containers are open
  pub left_open : (s : Nest E X) (fs : List Frame) → IsOpen holds s fs → LeavesSome holds is r s
  left_open s fs h = left s (inl (fs, h.0)) h.2

  -- what was done last told nothing where it failed, or an event returned an error
  pub left_kept : (old new : Nest E X) → HoldsSome holds is old.events → old.stopped ≡ None → KeepsEvents r old new
      → LeavesSome holds is r new
  left_kept old new h n k = by r k
    where
      stopped : (k : JsonParseErrorKind) (o : Option X) → k ≡ OutOfMemory → IsSome o → Leaves holds is k o new.events
      stopped k (Some x) e s = e
      stopped k None e s = absurd (true≢false (sym s))

      by : (r : Result T JsonParseErrorKind) → KeepsEvents r old new → LeavesSome holds is r new
      by (Ok v) k = tt
      by (Err e) (inl k) = subst (λ o. Leaves holds is e o new.events) (sym (k.1 ∙ n)) (subst (HoldsSome holds is) (sym k.0) h)
      by (Err e) (inr k) = stopped e new.stopped k.0 k.1

  -- the value is complete
  pub left_complete : (s : Nest E X) (n : Next) → Stands holds is s Complete n → awaited_of s ≡ [] → LeavesSome holds is r s
  left_complete s n h e =
      let w = subst (λ os. Completes holds is s.events os n) e h.0 in
      left s (inr (w.0, w.2)) h.1

-- an error of which no event knows
pub left_at : {B X : Type 0} (holds : B → List Frame → Type 0) (is : B → Tree → Type 0) (k : JsonParseErrorKind) (s : Nest B X)
    → HoldsSome holds is s.events → s.stopped ≡ None → Leaves holds is k s.stopped s.events
left_at holds is k s h n = subst (λ o. Leaves holds is k o s.events) (sym n) h

pub open_at_error : {B X : Type 0} (holds : B → List Frame → Type 0) (is : B → Tree → Type 0) (k : JsonParseErrorKind) (s : Nest B X)
    (fs : List Frame) → IsOpen holds s fs → Leaves holds is k s.stopped s.events
open_at_error holds is k s fs h = left_at holds is k s (inl (fs, h.0)) h.2

-- an event returned an error
pub left_stopped : {B X : Type 0} (holds : B → List Frame → Type 0) (is : B → Tree → Type 0) (s : Nest B X) → IsSome s.stopped
    → Leaves holds is OutOfMemory s.stopped s.events
left_stopped {X = X} holds is s h = by s.stopped h
  where
    by : (o : Option X) → IsSome o → Leaves holds is OutOfMemory o s.events
    by (Some x) h = refl
    by None h = absurd (true≢false (sym h))
