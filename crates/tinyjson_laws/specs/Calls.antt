-- Laws over the calls: they hold of every result that the contracts of the calls allow.
use Rattle.std.specs.Prelude.{
  ◌≡◌,
  ◌↔◌,
  ℕ,
  Bool,
  List,
  Option,
  Ok,
  Result,
  MatchResult,
  IfSome,
  IfOk,
  None,
  IsTrue,
  String,
  Vec,
  string_bytes,
}
use Rattle.std.specs.Str.{chars}
use Rattle.std.specs.String.{string_eq}
use Rattle.std.specs.declared.alloc.Global.{Global}
use Rattle.tinyjson_number.specs.declared.number.JsonNumber.{JsonNumber}
use Rattle.tinyjson.specs.Access.{JsonMap, number_part, boolean_part, string_part, null_part, array_part, object_part}
use Rattle.tinyjson.specs.Convert.{GivesPart}
use Rattle.tinyjson.specs.Error.{error_kind}
use Rattle.tinyjson_grammar.specs.Grammar.{IsText}
use Rattle.tinyjson.specs.Parser.{ParsesText}
use Rattle.tinyjson_grammar.specs.Syntax.{AreWhite}
use Rattle.tinyjson_grammar.specs.Text.{text, compact}
use Rattle.tinyjson_grammar.specs.Tree.{Tree}
use Rattle.tinyjson.specs.View.{view}
use Rattle.tinyjson.specs.declared.generator.JsonGenerateError.{JsonGenerateError}
use Rattle.tinyjson.specs.declared.parser.error.JsonParseError.{JsonParseError}
use Rattle.tinyjson_grammar.specs.declared.error.JsonParseErrorKind.TheVariants.{OutOfMemory}
use Rattle.tinyjson_grammar.specs.declared.kind.JsonKind.TheVariants as kind
use Rattle.tinyjson.specs.declared.value.JsonValue as made
use Rattle.tinyjson.specs.declared.value.JsonValue.{JsonValue}
use Rattle.tinyjson.specs.declared.value.convert.UnexpectedValue.{UnexpectedValue}

-- the value of a tree, or an error because memory ran out
abbrev pub IsValueOf : Tree → Result JsonValue JsonParseError → Type 0
IsValueOf t r = MatchResult r (λ v. view v ≡ t) (λ e. error_kind e ≡ OutOfMemory)

-- whatever a parser may return for a text is the value of the text's tree
abbrev pub TextAnswered : Type 0
TextAnswered =
    (limit : Option ℕ) (xs : List ℕ) (t : Tree) (r : Result JsonValue JsonParseError) →
    IsText limit xs t → ParsesText limit xs r → IsValueOf t r

-- whatever a parser may return for the text of a value, compact or with an indent of white space, is that value again
abbrev pub ReadsBack : Type 0
ReadsBack =
    (v : JsonValue) (indent : Option (List ℕ)) (xs : List ℕ) (r : Result JsonValue JsonParseError) →
    IfSome indent AreWhite → xs ≡ text indent 0 (view v) → ParsesText None xs r → IsValueOf (view v) r

-- what `stringify` may return for a value
abbrev pub Stringifies : JsonValue → Result (String Global) JsonGenerateError → Type 0
Stringifies v r = IfOk r (λ s. chars (string_bytes s) ≡ compact (view v))

-- whatever two strings it may return for two values are equal exactly if the values are
abbrev pub EqualStrings : Type 0
EqualStrings =
    (v w : JsonValue) (r q : Result (String Global) JsonGenerateError) → Stringifies v r → Stringifies w q →
    IfOk r (λ s. IfOk q (λ t. IsTrue (string_eq s t) ↔ (view v ≡ view w)))

-- whatever a conversion may return for the value that was made of x is x; null was made of ()
abbrev pub ConvertedBack : Type 0
ConvertedBack =
    ((x : JsonNumber) (r : Result JsonNumber UnexpectedValue) →
    GivesPart number_part kind.Number (made.Number x) r → r ≡ Ok x)
    × ((x : Bool) (r : Result Bool UnexpectedValue) →
    GivesPart boolean_part kind.Boolean (made.Boolean x) r → r ≡ Ok x)
    × ((x : String Global) (r : Result (String Global) UnexpectedValue) →
    GivesPart string_part kind.String (made.String x) r → r ≡ Ok x)
    × ((r : Result (Unit {0}) UnexpectedValue) →
    GivesPart null_part kind.Null made.Null r → r ≡ Ok tt)
    × ((x : Vec JsonValue Global) (r : Result (Vec JsonValue Global) UnexpectedValue) →
    GivesPart array_part kind.Array (made.Array x) r → r ≡ Ok x)
    × ((x : JsonMap) (r : Result JsonMap UnexpectedValue) →
    GivesPart object_part kind.Object (made.Object x) r → r ≡ Ok x)
