-- Laws of errors: which error a list has, and where, follows from the list.
use Rattle.std.specs.Prelude.{◌≡◌, ℕ, List, ◌++◌, Option, Result, Ok, Err, IfErr, All}
use Rattle.std.specs.Char.{IsScalar}
use Rattle.tinyjson.specs.Error.{error_kind, error_position}
use Rattle.tinyjson.specs.Parser.{ParsesText}
use Rattle.tinyjson_grammar.specs.Refusal.{IsRefusal}
use Rattle.tinyjson.specs.View.{view}
use Rattle.tinyjson.specs.declared.parser.error.JsonParseError.{JsonParseError}
use Rattle.tinyjson_grammar.specs.declared.error.JsonParseErrorKind.{JsonParseErrorKind}
use Rattle.tinyjson_grammar.specs.declared.error.JsonParseErrorKind.TheVariants.{OutOfMemory}
use Rattle.tinyjson.specs.declared.value.JsonValue.{JsonValue}

-- two errors of one list have one kind, and have consumed the same
abbrev pub OneRefusal : Type 0
OneRefusal =
    (limit : Option ℕ) (kind other : JsonParseErrorKind) (used rest others left : List ℕ) →
    All IsScalar (used ++ rest) → used ++ rest ≡ others ++ left →
    IsRefusal limit kind used rest → IsRefusal limit other others left → (kind ≡ other) × (used ≡ others)

-- memory did not run out
abbrev pub HasMemory : Result JsonValue JsonParseError → Type 0
HasMemory r = IfErr r (λ e. ¬ (error_kind e ≡ OutOfMemory))

-- values of one tree, or errors of one kind at one position
abbrev pub Agree : Result JsonValue JsonParseError → Result JsonValue JsonParseError → Type 0
Agree (Ok v) (Ok w) = view v ≡ view w
Agree (Err e) (Err d) = (error_kind e ≡ error_kind d) × (error_position e ≡ error_position d)
Agree (Ok v) (Err e) = ⊥
Agree (Err e) (Ok v) = ⊥

-- two results for one text agree, unless memory ran out
abbrev pub OneAnswer : Type 0
OneAnswer =
    (limit : Option ℕ) (xs : List ℕ) (a b : Result JsonValue JsonParseError) → All IsScalar xs →
    ParsesText limit xs a → ParsesText limit xs b → HasMemory a → HasMemory b → Agree a b
