-- Why a text is rejected and where, as numbers.
use Rattle.std.specs.Prelude.{◌≡◌, ℕ, Option, Some, None, unwrap_or, IfSome}
use Rattle.tinyjson.specs.Error.{JsonParseErrorKind}
use Rattle.tinyjson_c.specs.declared.place.TinyjsonPlace.{TinyjsonPlace}
use Rattle.tinyjson_grammar.specs.Position.{Position, position_at}
use Rattle.tinyjson_grammar.specs.declared.error.JsonParseErrorKind.TheVariants as kind
use Rattle.tinyjson_grammar.specs.declared.kind.JsonKind.{JsonKind}
use Rattle.tinyjson_grammar.specs.declared.kind.JsonKind.TheVariants as value

-- the number of a kind of error
abbrev pub kind_number : JsonParseErrorKind → ℕ
kind_number kind.UnexpectedEof = 1
kind_number (kind.InvalidCharacter c) = 2
kind_number (kind.ExpectedEof c) = 3
kind_number (kind.KeyNotString v) = 4
kind_number (kind.ExpectedColon c) = 5
kind_number (kind.ExpectedCommaOrBrace c) = 6
kind_number (kind.ExpectedCommaOrBracket c) = 7
kind_number kind.InvalidUtf16 = 8
kind_number (kind.InvalidHexDigit c) = 9
kind_number (kind.InvalidEscape c) = 10
kind_number (kind.ControlCharacter c) = 11
kind_number (kind.UnexpectedInLiteral c) = 12
kind_number kind.EmptyInteger = 13
kind_number kind.LeadingZero = 14
kind_number kind.EmptyFraction = 15
kind_number kind.EmptyExponent = 16
kind_number kind.NumberOutOfRange = 17
kind_number kind.OutOfMemory = 18
kind_number (kind.TooDeep c) = 19

-- the number of a kind of value
abbrev pub value_number : JsonKind → ℕ
value_number value.Null = 1
value_number value.Boolean = 2
value_number value.Number = 3
value_number value.String = 4
value_number value.Array = 5
value_number value.Object = 6

-- the character or the number of a kind of value that a kind of error names, if any
abbrev pub found_by : JsonParseErrorKind → Option ℕ
found_by (kind.KeyNotString v) = Some (value_number v)
found_by (kind.InvalidCharacter c) = Some c
found_by (kind.ExpectedEof c) = Some c
found_by (kind.ExpectedColon c) = Some c
found_by (kind.ExpectedCommaOrBrace c) = Some c
found_by (kind.ExpectedCommaOrBracket c) = Some c
found_by (kind.InvalidHexDigit c) = Some c
found_by (kind.InvalidEscape c) = Some c
found_by (kind.ControlCharacter c) = Some c
found_by (kind.UnexpectedInLiteral c) = Some c
found_by (kind.TooDeep c) = Some c
found_by _ = None

-- the place of an error of this kind, at this position of the text
abbrev pub error_place : ℕ → JsonParseErrorKind → Position → TinyjsonPlace
error_place text k p =
    record { kind = kind_number k; found = unwrap_or (found_by k) 0; line = p.line; column = p.column; length = 0; text = text }

-- the place without an error, with a number of bytes
abbrev pub length_place : ℕ → ℕ → TinyjsonPlace
length_place text n = record { kind = 0; found = 0; line = 0; column = 0; length = n; text = text }

-- the place if memory ran out; it has no position
abbrev pub memory_place : ℕ → TinyjsonPlace
memory_place text = error_place text kind.OutOfMemory (position_at 0 0)

-- the place is that of an error of this kind
abbrev pub IsError : TinyjsonPlace → JsonParseErrorKind → Type 0
IsError p k = (p.kind ≡ kind_number k) × IfSome (found_by k) (λ n. p.found ≡ n)
