-- Conversions of values, and what a refused one holds.
use Rattle.std.specs.Prelude.{◌≡◌, ℕ, List, ◌++◌, Option, Some, None, Result, MatchResult, codes}
use Rattle.tinyjson_grammar.specs.Kind.{kind_of, kind_name}
use Rattle.tinyjson.specs.View.{view}
use Rattle.tinyjson_grammar.specs.declared.kind.JsonKind.{JsonKind}
use Rattle.tinyjson.specs.declared.value.JsonValue.{JsonValue}
use Rattle.tinyjson.specs.declared.value.convert.UnexpectedValue.{UnexpectedValue}

-- the value that was to be converted
abbrev pub unexpected_value : UnexpectedValue → JsonValue
unexpected_value e = e.value

-- the kind that was expected of it
abbrev pub expected_kind : UnexpectedValue → JsonKind
expected_kind e = e.expected

-- the part that a value of that kind has, or an error that holds the whole value, where it has none
abbrev pub GivesPart : {A : Type 0} → (JsonValue → Option A) → JsonKind → JsonValue → Result A UnexpectedValue → Type 0
GivesPart part kind v r = MatchResult r (λ x. part v ≡ Some x)
    (λ e. (part v ≡ None) × ((unexpected_value e ≡ v) × (expected_kind e ≡ kind)))

abbrev pub unexpected_message : UnexpectedValue → List ℕ
unexpected_message e = codes "Unexpected JSON value: " ++ kind_name (kind_of (view (unexpected_value e)))
    ++ codes ". Expected " ++ kind_name (expected_kind e) ++ codes " value"
