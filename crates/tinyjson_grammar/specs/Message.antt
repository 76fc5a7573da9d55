-- The message of an error's kind.
use Rattle.std.specs.Prelude.{ℕ, ◌-◌, true, List, [], ◌∷◌, ◌++◌, length, replicate, cond, codes}
use Rattle.std.specs.Fmt.{digits}
use Rattle.std.specs.Int.{is_in_range}
use Rattle.tinyjson_grammar.specs.Characters.{digit_zero, space, tilde}
use Rattle.tinyjson_grammar.specs.Kind.{kind_name}
use Rattle.tinyjson_grammar.specs.declared.error.JsonParseErrorKind.{JsonParseErrorKind}
use Rattle.tinyjson_grammar.specs.declared.error.JsonParseErrorKind.TheVariants as kind

-- a code point in upper hexadecimal digits, at least four
abbrev pub code_point : ℕ → List ℕ
code_point c = codes "U+" ++ (replicate (4 - length (digits 16 true c)) digit_zero ++ digits 16 true c)

-- a character as messages show it: itself if it is printable ASCII, and otherwise its code point
abbrev pub shown : ℕ → List ℕ
shown c = cond (is_in_range space tilde c) (c ∷ []) (code_point c)

-- the message of a kind
abbrev pub kind_message : JsonParseErrorKind → List ℕ
kind_message kind.UnexpectedEof = codes "Unexpected EOF"
kind_message (kind.InvalidCharacter c) = codes "Invalid character: " ++ shown c
kind_message (kind.ExpectedEof c) = codes "Expected EOF but got character '" ++ (shown c ++ codes "'")
kind_message (kind.KeyNotString k) = codes "Key of object must be string but found " ++ kind_name k
kind_message (kind.ExpectedColon c) = codes "':' is expected after key of object but actually found '" ++ (shown c ++ codes "'")
kind_message (kind.ExpectedCommaOrBrace c) = codes "',' or '}' is expected for object but actually found '" ++ (shown c ++ codes "'")
kind_message (kind.ExpectedCommaOrBracket c) = codes "',' or ']' is expected for array but actually found '" ++ (shown c ++ codes "'")
kind_message kind.InvalidUtf16 = codes "Invalid UTF-16 sequence"
kind_message (kind.InvalidHexDigit c) =
    codes "Unicode character must be \\uXXXX (X is hex character) format but found character '" ++ (shown c ++ codes "'")
kind_message (kind.InvalidEscape c) = codes "'\\" ++ (shown c ++ codes "' is invalid escaped character")
kind_message (kind.ControlCharacter c) = codes "String cannot contain control character " ++ shown c
kind_message (kind.UnexpectedInLiteral c) = codes "Unexpected character '" ++ (shown c ++ codes "' while parsing a literal")
kind_message kind.EmptyInteger = codes "Integer part must not be empty in number literal"
kind_message kind.LeadingZero = codes "Integer part of number must not start with 0 except for '0'"
kind_message kind.EmptyFraction = codes "Fraction part of number must not be empty"
kind_message kind.EmptyExponent = codes "Exponent part must not be empty in number literal"
kind_message kind.NumberOutOfRange = codes "Invalid number literal: power of ten out of range"
kind_message kind.OutOfMemory = codes "Out of memory"
kind_message (kind.TooDeep c) = codes "Nesting is too deep at '" ++ (shown c ++ codes "'")
