-- What holds while a text is read event by event, and what a reading into events returns.
use Rattle.std.specs.Prelude.{◌≡◌, ℕ, List, [], ◌∷◌, ◌++◌, Option, Result, Ok, Err, MatchResult, IfErr, ◌⊎◌, ⊤}
use Rattle.tinyjson.specs.Error.{error_kind, error_position}
use Rattle.tinyjson.specs.Parser.{Parser, Remains}
use Rattle.tinyjson_grammar.specs.Grammar.{IsText, IsAccepted}
use Rattle.tinyjson_grammar.specs.Position.{origin, advance}
use Rattle.tinyjson_grammar.specs.Refusal.{IsInterrupted, MayGrow, RefusalSays}
use Rattle.tinyjson_grammar.specs.Syntax.{AreWhite}
use Rattle.tinyjson_grammar.specs.Tree.{Tree, put}
use Rattle.tinyjson.specs.declared.parser.error.JsonParseError.{JsonParseError}
use Rattle.tinyjson.specs.declared.parser.error.ReadError.{ReadError}
use Rattle.tinyjson.specs.declared.parser.error.ReadError.TheVariants.{Parse, Events}
use Rattle.tinyjson_grammar.specs.declared.error.JsonParseErrorKind.TheVariants as kind
use Rattle.tinyjson_grammar.specs.Characters.{BeginsLiteral}
-- null, or a boolean
pub use Rattle.tinyjson_grammar.specs.Tree.{literal_tree}
-- An open container: an array with its items, an object that awaits a key, and one that awaits the value of a key.
pub use Rattle.tinyjson_grammar.specs.Machine.{Frame as Open, in_array, at_key, at_value}

-- A complete value is put where it belongs, of equal keys the last; with nothing open it is the value of the text. Where a
-- key is awaited, nothing is claimed: what is no string is refused there.
abbrev pub Puts : {E : Type 0} → (E → List Open → Type 0) → (E → Tree → Type 0) → List Open → Tree → E → Type 0
Puts holds is [] t e = is e t
Puts holds is (in_array ts ∷ os) t e = holds e (in_array (ts ++ t ∷ []) ∷ os)
Puts holds is (at_key ms ∷ os) t e = ⊤
Puts holds is (at_value ms k ∷ os) t e = holds e (at_key (put k t ms) ∷ os)

-- What is held after an error: some containers are open, or a value is complete.
abbrev pub HoldsSome : {E : Type 0} → (E → List Open → Type 0) → (E → Tree → Type 0) → E → Type 0
HoldsSome holds is e = ((os : List Open) × holds e os) ⊎ ((t : Tree) × is e t)

-- what holds of an error that is not one of the events
abbrev pub OnParse : {X : Type 0} → ReadError X → (JsonParseError → Type 0) → Type 0
OnParse (Parse e) holds = holds e
OnParse (Events x) holds = ⊤

-- Memory ran out, or an event returned an error.
abbrev pub BreaksOff : {X : Type 0} → ReadError X → Type 0
BreaksOff (Parse e) = error_kind e ≡ kind.OutOfMemory
BreaksOff (Events x) = ⊤

-- The error of a parser that an error becomes, where the events fail by memory alone: then it has no place of its own.
abbrev pub Becomes : {X : Type 0} → ReadError X → JsonParseError → Type 0
Becomes (Parse e) p = p ≡ e
Becomes (Events x) p = (error_kind p ≡ kind.OutOfMemory) × (error_position p ≡ origin)

-- An error gives the events back: the result without them.
abbrev pub without_events : {E F : Type 0} → Result E (F × E) → Result E F
without_events (Ok e) = Ok e
without_events (Err w) = Err w.0

-- An error, but one of the events, gives back events that hold some open containers, or are of some value. So what an event
-- returned is not reported as out of memory.
abbrev pub GivesBack : {E X : Type 0} → (E → List Open → Type 0) → (E → Tree → Type 0) → Result E (ReadError X × E) → Type 0
GivesBack holds is result = IfErr result (λ w. OnParse w.0 (λ e. HoldsSome holds is w.1))

-- The first character that is not white space begins a literal.
pub record MeetsLiteral (xs : List ℕ) : Type 0 where
  pub before : List ℕ
  pub first : ℕ
  pub more : List ℕ
  pub whole : xs ≡ before ++ first ∷ more
  pub white : AreWhite before
  pub begins : BeginsLiteral first

-- Memory ran out or an event returned an error: where that may come. A literal alone takes no memory, so there it was the event.
pub record IsBrokenOff (limit : Option ℕ) (consumed rest : List ℕ) : Type 0 where
  pub place : IsInterrupted limit consumed
  pub begun : MayGrow (consumed ++ rest) ⊎ MeetsLiteral (consumed ++ rest)

-- What reading these characters into events returns: events of their tree, or the error that a new parser returns,
-- unless memory ran out or an event returned an error.
pub record TellsEvents {E X : Type 0} (is : E → Tree → Type 0) (limit : Option ℕ) (xs : List ℕ) (result : Result E (ReadError X))
    : Type 0 where
  pub consumed : List ℕ
  pub rest : List ℕ
  pub whole : xs ≡ consumed ++ rest
  pub answer : MatchResult result
      (λ e. (rest ≡ []) × (t : Tree) × IsText limit xs t × is e t)
      (λ w. OnParse w (λ e. (error_position e ≡ advance origin consumed)
      × (¬ (error_kind e ≡ kind.OutOfMemory) → RefusalSays limit (error_kind e) consumed rest)))
  pub refused : IfErr result (λ w. OnParse w (λ e. ¬ (error_kind e ≡ kind.OutOfMemory) → ¬ IsAccepted limit xs))
  pub broken_off : IfErr result (λ w. BreaksOff w → IsBrokenOff limit consumed rest)

-- What is built of such events: as TellsEvents, where they fail by memory alone.
pub record TellsText {E : Type 0} (is : E → Tree → Type 0) (limit : Option ℕ) (xs : List ℕ) (result : Result E JsonParseError)
    : Type 0 where
  pub consumed : List ℕ
  pub rest : List ℕ
  pub whole : xs ≡ consumed ++ rest
  pub answer : MatchResult result
      (λ e. (rest ≡ []) × (t : Tree) × IsText limit xs t × is e t)
      (λ e. (error_position e ≡ advance origin consumed)
      × (¬ (error_kind e ≡ kind.OutOfMemory) → RefusalSays limit (error_kind e) consumed rest))
  pub refused : IfErr result (λ e. ¬ (error_kind e ≡ kind.OutOfMemory) → ¬ IsAccepted limit xs)
  pub broken_off : IfErr result (λ e. error_kind e ≡ kind.OutOfMemory → IsBrokenOff limit consumed rest)

-- As TellsEvents, for the characters xs that a parser p had left, of which q has the rest left.
pub record TellsRest
    {S E X : Type 0} (steps : S → Option ℕ → S → Type 0) (is : E → Tree → Type 0)
    (p : Parser S) (xs : List ℕ) (result : Result E (ReadError X)) (q : Parser S)
    : Type 0 where
  pub consumed : List ℕ
  pub rest : List ℕ
  pub whole : xs ≡ consumed ++ rest
  pub remains : Remains steps q rest
  pub position : q.position ≡ advance p.position consumed
  pub answer : MatchResult result
      (λ e. (rest ≡ []) × (t : Tree) × IsText p.limit xs t × is e t)
      (λ w. OnParse w (λ e. (error_position e ≡ q.position)
      × (¬ (error_kind e ≡ kind.OutOfMemory) → RefusalSays p.limit (error_kind e) consumed rest)))
  pub refused : IfErr result (λ w. OnParse w (λ e. ¬ (error_kind e ≡ kind.OutOfMemory) → ¬ IsAccepted p.limit xs))
  pub broken_off : IfErr result (λ w. BreaksOff w → IsBrokenOff p.limit consumed rest)
