-- What a new parser returns for a text, in two sentences.
use Rattle.std.specs.Prelude.{◌≡◌, ◌↔◌, ℕ, ◌+◌, ◌≤◌, List, Option, Result, MatchResult, ⊤, length, take}
use Rattle.tinyjson_grammar.specs.Prefix.{IsViable, IsLooselyViable}
use Rattle.tinyjson.specs.Error.{error_kind, error_position}
use Rattle.tinyjson_grammar.specs.Grammar.{IsText, IsAccepted}
use Rattle.tinyjson_grammar.specs.Position.{origin, advance}
use Rattle.tinyjson_grammar.specs.Tree.{Tree}
use Rattle.tinyjson.specs.View.{view}
use Rattle.tinyjson.specs.declared.parser.error.JsonParseError.{JsonParseError}
use Rattle.tinyjson_grammar.specs.declared.error.JsonParseErrorKind.TheVariants.{OutOfMemory}
use Rattle.tinyjson.specs.declared.value.JsonValue.{JsonValue}
use Rattle.tinyjson_laws.specs.Prefixes.{IsShortest}

-- an error for another cause than memory
abbrev pub IsNotOutOfMemory : JsonParseError → Type 0
IsNotOutOfMemory e = ¬ (error_kind e ≡ OutOfMemory)

-- Unless memory runs out, the result is exactly the value that the grammar relates to the characters, and an error where it relates none.
abbrev pub FollowsGrammar : Option ℕ → List ℕ → Result JsonValue JsonParseError → Type 0
FollowsGrammar limit xs result = MatchResult result
    (λ v. (t : Tree) → IsText limit xs t ↔ (t ≡ view v))
    (λ e. IsNotOutOfMemory e → ¬ IsAccepted limit xs)

-- The error's position follows the first n characters of xs.
pub record StopsAt (limit : Option ℕ) (xs : List ℕ) (e : JsonParseError) (n : ℕ) : Type 0 where
  pub within : n ≤ length xs
  pub position : error_position e ≡ advance origin (take n xs)
  -- at least all but the last character of the shortest prefix that no text continues
  pub not_too_soon : IsNotOutOfMemory e → (d : ℕ) → IsShortest (IsViable (IsAccepted limit)) xs d → d ≤ n + 1
  -- all characters, where each prefix is continued by some text
  pub at_end : IsNotOutOfMemory e → ((k : ℕ) → k ≤ length xs → ¬ ¬ IsViable (IsAccepted limit) (take k xs)) → n ≡ length xs
  -- no more than the shortest prefix that no text of the loose grammar continues, where memory ran out too
  pub not_too_late : (l : ℕ) → IsShortest (IsLooselyViable limit) xs l → n ≤ l
  -- where memory ran out, some text of the loose grammar continues those n characters
  pub viable : error_kind e ≡ OutOfMemory → IsLooselyViable limit (take n xs)

-- An error is reported neither early nor late.
abbrev pub IsTimely : Option ℕ → List ℕ → Result JsonValue JsonParseError → Type 0
IsTimely limit xs result = MatchResult result (λ v. ⊤) (λ e. (n : ℕ) × StopsAt limit xs e n)
