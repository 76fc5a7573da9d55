-- What a contract sees of a parser, and what a call of `parse` returns.
use Rattle.std.specs.Prelude.{◌≡◌, ℕ, List, [], ◌++◌, Option, Some, None, Result, MatchResult, IfErr, All}
use Rattle.std.specs.Char.{IsScalar}
use Rattle.std.specs.Iterator.{AlwaysYields}
use Rattle.std.specs.Option.{option_to_list}
use Rattle.tinyjson.specs.Error.{error_kind, error_position}
use Rattle.tinyjson_grammar.specs.Grammar.{IsText, IsAccepted}
use Rattle.tinyjson_grammar.specs.Position.{Position, origin, advance}
use Rattle.tinyjson_grammar.specs.Refusal.{RefusalSays}
use Rattle.tinyjson.specs.View.{view}
use Rattle.tinyjson.specs.declared.parser.error.JsonParseError.{JsonParseError}
use Rattle.tinyjson_grammar.specs.declared.error.JsonParseErrorKind.TheVariants as kind
use Rattle.tinyjson.specs.declared.value.JsonValue.{JsonValue}

-- Whichever way the calls on a source go, they give these characters, which are scalar values, and then the end.
pub record Provides {S : Type 0} (steps : S → Option ℕ → S → Type 0) (source : S) (xs : List ℕ) : Type 0 where
  pub gives : AlwaysYields steps (λ x. x) source xs
  pub scalars : All IsScalar xs

-- What contracts see of a parser.
pub record Parser (S : Type 0) : Type 0 where
  -- how many containers may be open at once, if there is a limit
  pub limit : Option ℕ
  -- the line and the column after what was consumed
  pub position : Position
  -- the character that was looked at and is not consumed
  pub ahead : Option ℕ
  -- the iterator, until it gave its end
  pub source : Option S

module _ {S : Type 0} (steps : S → Option ℕ → S → Type 0) where
  -- after the character that was looked at
  abbrev pub Follows : Option S → List ℕ → Type 0
  Follows None xs = xs ≡ []
  Follows (Some source) xs = AlwaysYields steps (λ x. x) source xs

  -- The parser has these characters left, which it has not consumed.
  pub record Remains (p : Parser S) (xs : List ℕ) : Type 0 where
    pub later : List ℕ
    pub whole : xs ≡ option_to_list p.ahead ++ later
    pub follows : Follows p.source later
    pub scalars : All IsScalar xs

-- What `parse` returns for the characters xs that p had left, of which q has the rest left.
pub record Parses
    {S : Type 0} (steps : S → Option ℕ → S → Type 0)
    (p : Parser S) (xs : List ℕ) (result : Result JsonValue JsonParseError) (q : Parser S)
    : Type 0 where
  pub consumed : List ℕ
  pub rest : List ℕ
  pub whole : xs ≡ consumed ++ rest
  pub remains : Remains steps q rest
  pub position : q.position ≡ advance p.position consumed
  -- all of a text, with its tree, or an error at the parser's position
  pub answer : MatchResult result
      (λ v. (rest ≡ []) × IsText p.limit xs (view v))
      (λ e. (error_position e ≡ q.position) × RefusalSays p.limit (error_kind e) consumed rest)
  -- an error, unless memory ran out, means that the characters have no tree
  pub refused : IfErr result (λ e. ¬ (error_kind e ≡ kind.OutOfMemory) → ¬ IsAccepted p.limit xs)

-- What a new parser with this limit returns for a text of these characters.
pub record ParsesText (limit : Option ℕ) (xs : List ℕ) (result : Result JsonValue JsonParseError) : Type 0 where
  pub consumed : List ℕ
  pub rest : List ℕ
  pub whole : xs ≡ consumed ++ rest
  pub answer : MatchResult result
      (λ v. (rest ≡ []) × IsText limit xs (view v))
      (λ e. (error_position e ≡ advance origin consumed) × RefusalSays limit (error_kind e) consumed rest)
  pub refused : IfErr result (λ e. ¬ (error_kind e ≡ kind.OutOfMemory) → ¬ IsAccepted limit xs)

-- What a check of a text of these characters returns: nothing if it has a tree, or the error that a new parser returns.
pub record ChecksText (limit : Option ℕ) (xs : List ℕ) (result : Result (Unit {0}) JsonParseError) : Type 0 where
  pub consumed : List ℕ
  pub rest : List ℕ
  pub whole : xs ≡ consumed ++ rest
  pub answer : MatchResult result
      (λ _. (rest ≡ []) × IsAccepted limit xs)
      (λ e. (error_position e ≡ advance origin consumed) × RefusalSays limit (error_kind e) consumed rest)
  pub refused : IfErr result (λ e. ¬ (error_kind e ≡ kind.OutOfMemory) → ¬ IsAccepted limit xs)
