-- What the parser did with a whole text or with a part of it, and where it may need memory. For private contracts.
use Rattle.std.specs.Prelude.{◌≡◌, ℕ, List, [], Option, Result, MatchResult, IsTrue}
use Rattle.tinyjson_grammar.specs.Machine.{awaited, finished, Next, next}
use Rattle.tinyjson_grammar.specs.Refusal.{MayGrow, begins_growth}
use Rattle.tinyjson_grammar.specs.Tree.{Tree}
use Rattle.tinyjson_tokens.specs.Source.{Sight}
use Rattle.tinyjson_tokens.specs.Steps.{Leads, Refuses}
use Rattle.tinyjson.specs.Error.{error_position}
use Rattle.tinyjson.specs.View.{view}
use Rattle.tinyjson.specs.declared.parser.error.JsonParseError.{JsonParseError}
use Rattle.tinyjson.specs.declared.value.JsonValue.{JsonValue}
use Rattle.tinyjson_grammar.specs.declared.error.JsonParseErrorKind.{JsonParseErrorKind}
use Rattle.tinyjson_grammar.specs.declared.error.JsonParseErrorKind.TheVariants.{OutOfMemory}

-- a whole text: its value, or an error at the place of the source
abbrev pub ReadsText : {S : Type 0} → Sight S → Option ℕ → S → Result JsonValue JsonParseError → S → Type 0
ReadsText sight limit p r q = MatchResult r (λ v. Leads sight limit p (next [] awaited) q (next [] (finished (view v))))
    (λ e. (error_position e ≡ sight.place q) × Refuses sight limit p (next [] awaited) e.kind q)

-- a whole text: it has a tree, or an error at the place of the source
abbrev pub FindsText : {S T : Type 0} → Sight S → Option ℕ → S → Result T JsonParseError → S → Type 0
FindsText sight limit p r q = MatchResult r (λ _. (t : Tree) × Leads sight limit p (next [] awaited) q (next [] (finished t)))
    (λ e. (error_position e ≡ sight.place q) × Refuses sight limit p (next [] awaited) e.kind q)

-- the rest of a text: it leads to a tree, or the machine refuses it, or there was no memory
abbrev pub Finds : {S T : Type 0} → Sight S → Option ℕ → S → Next → Result T JsonParseErrorKind → S → Type 0
Finds sight limit p n r q = MatchResult r (λ _. (t : Tree) × Leads sight limit p n q (next [] (finished t)))
    (λ k. Refuses sight limit p n k q)

-- what the source gives begins, after white space, with a string, a number or a container
abbrev pub Grows : {S : Type 0} → Sight S → S → Type 0
Grows sight p = (zs : List ℕ) → sight.gives p zs → MayGrow zs

-- a call that succeeded, or found no memory, began with a character that begins a string, a number or a container
abbrev pub GrowsFor : {T : Type 0} → ℕ → Result T JsonParseErrorKind → Type 0
GrowsFor c r = MatchResult r (λ _. IsTrue (begins_growth c)) (λ k. k ≡ OutOfMemory → IsTrue (begins_growth c))
