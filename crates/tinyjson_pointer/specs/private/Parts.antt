-- What private contracts say of parts.
use Rattle.std.specs.Prelude.{◌≡◌, ℕ, ◌+◌, List, [], ◌++◌, length, Option, option_map, None, MatchOption, Result, Ok, Err}
use Rattle.std.specs.Prelude.{encode_utf8_all}
use Rattle.std.specs.Str.{chars}
use denote.Ref.{Bor}
use Rattle.tinyjson.specs.Error.{error_kind}
use Rattle.tinyjson_grammar.specs.Position.{Position, position_at, origin, advance, capped}
use Rattle.tinyjson_grammar.specs.Syntax.{Syntax, text, IsSpelled, IsStrict}
use Rattle.tinyjson.specs.declared.parser.error.JsonParseError.{JsonParseError}
use Rattle.tinyjson_grammar.specs.declared.error.JsonParseErrorKind.TheVariants as kind
use Rattle.tinyjson_pointer.specs.Places.{child}
use Rattle.tinyjson_pointer.specs.Spots.{Spot}
use Rattle.tinyjson_pointer.specs.declared.place.Place.{Place}

-- what begins with the spot, where r is behind all
abbrev pub begun : List ℕ → Spot → List ℕ
begun r p = text p.part ++ (p.behind ++ r)

-- memory ran out: an error of no other kind
abbrev pub IsExhausted : JsonParseError → Type 0
IsExhausted e = ¬ (¬ (error_kind e ≡ kind.OutOfMemory))

-- What begins with the spot, if there is one; or memory ran out.
abbrev pub FindsFrom : List ℕ → Option Spot → Result (Option (Bor (List ℕ))) JsonParseError → Type 0
FindsFrom r o (Ok found) = option_map (λ s. chars s.now) found ≡ option_map (begun r) o
FindsFrom r o (Err e) = IsExhausted e

-- What a step gives, where there may be no value.
abbrev pub Steps : List ℕ → Option (List ℕ) → Result (Option (Bor (List ℕ))) JsonParseError → Type 0
Steps k here result = MatchOption here (FindsFrom [] None result) (λ xs. (s : Syntax) (r : List ℕ) →
    IsSpelled s → IsStrict s → xs ≡ text s ++ r → FindsFrom r (child s k) result)

pub record EndsWith (xs ys : List ℕ) : Type 0 where
  pub front : List ℕ
  pub whole : xs ≡ front ++ ys

-- one column further
abbrev pub next_column : Position → Position
next_column p = position_at p.line (capped (p.column + 1))

-- The place after these characters, whose column is that of the next.
abbrev pub IsBefore : List ℕ → Place → Type 0
IsBefore front place = (place.offset ≡ length (encode_utf8_all front))
    × (position_at place.line place.column ≡ next_column (advance origin front))
