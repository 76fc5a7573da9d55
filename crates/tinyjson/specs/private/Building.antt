-- What events hold while a text is read into them. For private contracts.
use Rattle.std.specs.Prelude.{◌≡◌, ℕ, List, [], ◌∷◌, reverse, Option, None, Some, IsSome, Result, Ok, Err, MatchResult, IfErr, ◌⊎◌, true, ⊤}
use Rattle.tinyjson_grammar.specs.Refusal.{MayGrow}
use Rattle.tinyjson_grammar.specs.Tree.{Tree, Members}
use Rattle.tinyjson_grammar.specs.Machine.{Frame, in_array, at_key, at_value, awaited, after, finished, Next, next, stop}
use Rattle.tinyjson_grammar.specs.declared.error.JsonParseErrorKind.{JsonParseErrorKind}
use Rattle.tinyjson_grammar.specs.declared.error.JsonParseErrorKind.TheVariants.{OutOfMemory}
use Rattle.tinyjson_tokens.specs.Source.{Sight}
use Rattle.tinyjson_tokens.specs.Steps.{IsNext, Leads, Refuses}
use Rattle.tinyjson.specs.Error.{error_position}
use Rattle.tinyjson.specs.Events.{HoldsSome, MeetsLiteral, OnParse}
use Rattle.tinyjson.specs.declared.parser.error.ReadError.{ReadError}
use Rattle.tinyjson.specs.declared.parser.error.ReadError.TheVariants.{Parse, Events}
use Rattle.tinyjson.specs.declared.parser.nest.Awaited.{Awaited}
use Rattle.tinyjson.specs.declared.parser.nest.Awaited.TheVariants.{Item, Key, Value}
use Rattle.tinyjson.specs.declared.parser.nest.Nest.{Nest}
use Rattle.tinyjson.specs.declared.parser.nest.Progress.{Progress}
use Rattle.tinyjson.specs.declared.parser.nest.Progress.TheVariants.{Awaits, Complete}

-- no key is awaited
abbrev pub TakesValue : List Frame → Type 0
TakesValue [] = ⊤
TakesValue (in_array ts ∷ fs) = ⊤
TakesValue (at_key ms ∷ fs) = ⊥
TakesValue (at_value ms k ∷ fs) = ⊤

-- what the open containers await, the innermost first
abbrev pub Agree : List Awaited → List Frame → Type 0
Agree [] [] = ⊤
Agree (Item ∷ os) (in_array ts ∷ fs) = Agree os fs
Agree (Key ∷ os) (at_key ms ∷ fs) = Agree os fs
Agree (Value ∷ os) (at_value ms k ∷ fs) = Agree os fs
Agree os fs = ⊥

-- as Agree, for the containers around the innermost
abbrev pub AgreeAround : List Awaited → List Frame → Type 0
AgreeAround [] fs = ⊥
AgreeAround (o ∷ os) fs = Agree os fs

-- the innermost first
abbrev pub awaited_of : {B X : Type 0} → Nest B X → List Awaited
awaited_of n = reverse n.awaited.items

module _ {B X : Type 0} (holds : B → List Frame → Type 0) where
  -- these containers are open, a value or a key is awaited, and no event returned an error
  abbrev pub IsOpen : Nest B X → List Frame → Type 0
  IsOpen n fs = holds n.events fs × Agree (awaited_of n) fs × (n.stopped ≡ None)

  -- the events hold these, and the containers around the innermost await what they should
  abbrev pub IsWithin : Nest B X → Frame → List Frame → Type 0
  IsWithin n f fs = holds n.events (f ∷ fs) × AgreeAround (awaited_of n) fs × (n.stopped ≡ None)

module _ {B : Type 0} (holds : B → List Frame → Type 0) (is : B → Tree → Type 0) where
  -- a value is complete, and was put where it belongs: as an item of an array, or at a key
  abbrev pub Completes : B → List Awaited → Next → Type 0
  Completes b [] n = (t : Tree) × (n ≡ next [] (finished t)) × is b t
  Completes b (Item ∷ os) n =
      (ts : List Tree) × (fs : List Frame) × (n ≡ next (in_array ts ∷ fs) after) × holds b (in_array ts ∷ fs) × Agree os fs
  Completes b (Key ∷ os) n = ⊥
  Completes b (Value ∷ os) n =
      (ms : Members) × (fs : List Frame) × (n ≡ next (at_key ms ∷ fs) after) × holds b (at_key ms ∷ fs) × Agree os fs

module _ {B X : Type 0} (holds : B → List Frame → Type 0) (is : B → Tree → Type 0) where
  -- the state of the machine
  abbrev pub Stands : Nest B X → Progress → Next → Type 0
  Stands s Awaits n = (fs : List Frame) × (n ≡ next fs awaited) × IsOpen holds s fs
  Stands s Complete n = Completes holds is s.events (awaited_of s) n × (s.stopped ≡ None)

  -- what was put where it belongs leads to this state, or to a refusal; or there was no memory
  abbrev pub Joins : Next → Result Progress JsonParseErrorKind → Nest B X → Type 0
  Joins n r s = MatchResult r (λ v. Stands s v n) (λ k. (n ≡ stop k true) ⊎ ((k ≡ OutOfMemory) × IsNext n))

  -- a part of a text: the machine went from n to the nest's state, or it refuses, or there was no memory
  abbrev pub Continues : {S : Type 0} → Sight S → Option ℕ → S → Next → Result Progress JsonParseErrorKind → Nest B X → S → Type 0
  Continues sight limit p n r s q = MatchResult r (λ v. (m : Next) × Leads sight limit p n q m × Stands s v m)
      (λ k. Refuses sight limit p n k q)

  -- a text: the events are of its tree
  abbrev pub Builds : {S : Type 0} → Sight S → Option ℕ → S → Next → Result (Unit {0}) JsonParseErrorKind → Nest B X → S → Type 0
  Builds sight limit p n r s q = MatchResult r
      (λ _. (t : Tree) × Leads sight limit p n q (next [] (finished t)) × is s.events t) (λ k. Refuses sight limit p n k q)

-- a value is complete, or its event returned an error
abbrev pub Completed : {B X : Type 0} → Result (Unit {0}) X → Result Progress JsonParseErrorKind → Nest B X → Nest B X → Type 0
Completed put (Ok v) old new = (v ≡ Complete) × (put ≡ Ok tt) × (new ≡ old)
Completed put (Err k) old new = (k ≡ OutOfMemory) × IsSome new.stopped

-- an error left the events as they were, or an event returned it
abbrev pub KeepsEvents : {T B X : Type 0} → Result T JsonParseErrorKind → Nest B X → Nest B X → Type 0
KeepsEvents r old new = IfErr r (λ k. ((new.events ≡ old.events) × (new.stopped ≡ old.stopped)) ⊎ ((k ≡ OutOfMemory) × IsSome new.stopped))

-- an error left events that hold some open containers, or are of some value, or an event returned it
abbrev pub Leaves : {B X : Type 0} → (B → List Frame → Type 0) → (B → Tree → Type 0) → JsonParseErrorKind → Option X → B → Type 0
Leaves holds is k None b = HoldsSome holds is b
Leaves holds is k (Some x) b = k ≡ OutOfMemory

abbrev pub LeavesSome : {T B X : Type 0} → (B → List Frame → Type 0) → (B → Tree → Type 0) → Result T JsonParseErrorKind → Nest B X → Type 0
LeavesSome holds is r new = IfErr r (λ k. Leaves holds is k new.stopped new.events)

-- a text read into events, which are given back: they are of its tree
abbrev pub Tells : {B X S : Type 0} → (B → Tree → Type 0) → Sight S → Option ℕ → S → Next → Result B (JsonParseErrorKind × Option X × B) → S → Type 0
Tells is sight limit p n r q = MatchResult r (λ b. (t : Tree) × Leads sight limit p n q (next [] (finished t)) × is b t)
    (λ w. Refuses sight limit p n w.0 q)

-- an error of the events counts as out of memory
abbrev pub break_kind : {X : Type 0} → ReadError X → JsonParseErrorKind
break_kind (Parse e) = e.kind
break_kind (Events x) = OutOfMemory

-- the same, where an error has the place of the source
abbrev pub TellsAll : {B X S : Type 0} → (B → Tree → Type 0) → Sight S → Option ℕ → S → Result B (ReadError X × B) → S → Type 0
TellsAll is sight limit p r q = MatchResult r (λ b. (t : Tree) × Leads sight limit p (next [] awaited) q (next [] (finished t)) × is b t)
    (λ w. OnParse w.0 (λ e. error_position e ≡ sight.place q) × Refuses sight limit p (next [] awaited) (break_kind w.0) q)

-- what the source gives begins, after white space, with a string, a number, a container or a literal
abbrev pub Meets : {S : Type 0} → Sight S → S → Type 0
Meets sight p = (zs : List ℕ) → sight.gives p zs → MayGrow zs ⊎ MeetsLiteral zs
