-- What an error says of the characters that were consumed and of the rest, kind by kind.
use Rattle.std.specs.Prelude.{◌≡◌, ℕ, ◌<◌, ◌≤◌, List, [], ◌∷◌, ◌++◌, Option, None, IsSome, ⊤, ◌⊎◌, IsTrue, length, take, slice_index}
use Rattle.std.specs.Prelude.{false, Bool, ◌||◌, ◌==◌, codes}
use Rattle.std.specs.Char.{is_ascii_digit}
use Rattle.tinyjson_grammar.specs.Characters.{is_white, is_hex, short_escape, paired}
use Rattle.tinyjson_number.specs.Numeral.{is_sign, is_exponent_letter, Numeral, IsNumeral, spelling, value, in_range, has_leading_zero}
use Rattle.tinyjson_number.specs.Numeral.{AreDigits, minus_text, fraction_text}
use Rattle.tinyjson_grammar.specs.Syntax.{Syntax, null, boolean, number, string, empty_array, array, empty_object, object, text, AreWhite}
use Rattle.tinyjson_grammar.specs.Syntax.{IsSpelled, IsStrict, is_key, Piece, unit, pieces_text, piece_codes, IsPiece, ArePieces, tree_of}
use Rattle.tinyjson_grammar.specs.Kind.{kind_of}
use Rattle.tinyjson_grammar.specs.Grammar.{IsAccepted}
use Rattle.tinyjson_grammar.specs.Prefix.{IsViable, IsErrorFree, IsLooselyViable}
use Rattle.tinyjson_grammar.specs.declared.error.JsonParseErrorKind.{JsonParseErrorKind}
use Rattle.tinyjson_grammar.specs.declared.error.JsonParseErrorKind.TheVariants.{UnexpectedEof, InvalidCharacter, ExpectedEof}
use Rattle.tinyjson_grammar.specs.declared.error.JsonParseErrorKind.TheVariants.{KeyNotString, ExpectedColon, ExpectedCommaOrBrace}
use Rattle.tinyjson_grammar.specs.declared.error.JsonParseErrorKind.TheVariants.{ExpectedCommaOrBracket, InvalidUtf16, InvalidHexDigit}
use Rattle.tinyjson_grammar.specs.declared.error.JsonParseErrorKind.TheVariants.{InvalidEscape, ControlCharacter, UnexpectedInLiteral}
use Rattle.tinyjson_grammar.specs.declared.error.JsonParseErrorKind.TheVariants.{EmptyInteger, LeadingZero, EmptyFraction, EmptyExponent}
use Rattle.tinyjson_grammar.specs.declared.error.JsonParseErrorKind.TheVariants.{NumberOutOfRange, OutOfMemory, TooDeep}
use Rattle.tinyjson_grammar.specs.declared.kind.JsonKind.{JsonKind}
use Rattle.tinyjson_grammar.specs.Characters.{begin_array, begin_object, end_array, end_object, letter_f}
use Rattle.tinyjson_grammar.specs.Characters.{letter_n, letter_t, letter_u, minus_sign, name_separator}
use Rattle.tinyjson_grammar.specs.Characters.{quotation_mark, reverse_solidus, space, value_separator}

-- what is left begins with no such character, or nothing is left
abbrev pub BeginsWithNone : (ℕ → Bool) → List ℕ → Type 0
BeginsWithNone p [] = ⊤
BeginsWithNone p (c ∷ cs) = p c ≡ false

-- what is left begins with c
abbrev pub BeginsWith : ℕ → List ℕ → Type 0
BeginsWith c rest = (more : List ℕ) × (rest ≡ c ∷ more)

abbrev pub IsHex : List ℕ → Type 0
IsHex [] = ⊤
IsHex (d ∷ ds) = IsTrue (is_hex d) × IsHex ds

abbrev pub EndsWith : List ℕ → List ℕ → Type 0
EndsWith end xs = (prefix : List ℕ) × (xs ≡ prefix ++ end)

-- c begins a value: n, t, f, a quote, [, {, a minus sign or a digit
abbrev pub begins_value : ℕ → Bool
begins_value c =
    (c == letter_n)
    || ((c == letter_t) || ((c == letter_f) || ((c == quotation_mark)
    || ((c == begin_array) || ((c == begin_object) || ((c == minus_sign) || is_ascii_digit c))))))

-- `\u` escapes side by side
abbrev pub AreUnits : List Piece → Type 0
AreUnits [] = ⊤
AreUnits (Piece.plain c ∷ ps) = ⊥
AreUnits (Piece.escape c ∷ ps) = ⊥
AreUnits (unit a b c d ∷ ps) = IsPiece (unit a b c d) × AreUnits ps

-- the closing quote, or a piece that is not a `\u` escape
abbrev pub EndsRun : List ℕ → Type 0
EndsRun e =
    (e ≡ codes "\"") ⊎ ((p : Piece) × IsPiece p × (e ≡ pieces_text (p ∷ [])) × ¬ AreUnits (p ∷ []))

abbrev pub IsLiteral : List ℕ → Type 0
IsLiteral l = (l ≡ codes "null") ⊎ (l ≡ codes "true") ⊎ (l ≡ codes "false")

-- a value is awaited: a line feed and a quote may follow
abbrev pub AwaitsValue : Option ℕ → List ℕ → Type 0
AwaitsValue limit consumed = IsErrorFree limit consumed × IsLooselyViable limit (consumed ++ codes "\n\"")

-- the list ends with a token that was begun where a value is awaited
pub record BeginsAt (limit : Option ℕ) (consumed token : List ℕ) : Type 0 where
  pub prefix : List ℕ
  pub whole : consumed ≡ prefix ++ token
  pub awaited : AwaitsValue limit prefix

-- The list ends within a string: pieces whose surrogates have their partners, `\u` escapes side by
-- side, and the end.
pub record InString (limit : Option ℕ) (consumed : List ℕ) (units : List Piece) (end : List ℕ) : Type 0 where
  pub pieces : List Piece
  pub are_pieces : ArePieces pieces
  pub are_paired : IsTrue (paired (piece_codes pieces))
  pub are_units : AreUnits units
  pub begins : BeginsAt limit consumed (quotation_mark ∷ (pieces_text pieces ++ (pieces_text units ++ end)))

-- the list ends within a string, with the end after `\u` escapes side by side, perhaps none
abbrev pub EndsString : Option ℕ → List ℕ → List ℕ → Type 0
EndsString limit consumed end = (units : List Piece) × InString limit consumed units end

-- the list ends with the first letters of a literal, at least one and not all of them
abbrev pub InLiteral : Option ℕ → List ℕ → Type 0
InLiteral limit consumed =
    (l : List ℕ) × (n : ℕ) × IsLiteral l × (0 < n) × (n < length l) × BeginsAt limit consumed (take n l)

-- digits of an integer part
abbrev pub AreIntegerDigits : List ℕ → Type 0
AreIntegerDigits ds = AreDigits ds × (0 < length ds) × (has_leading_zero ds ≡ false)

-- no digit follows a number
abbrev pub EndsBefore : Syntax → List ℕ → Type 0
EndsBefore (number n) rest = BeginsWithNone is_ascii_digit rest
EndsBefore null rest = ⊤
EndsBefore (boolean b) rest = ⊤
EndsBefore (string ps) rest = ⊤
EndsBefore (empty_array w) rest = ⊤
EndsBefore (array es) rest = ⊤
EndsBefore (empty_object w) rest = ⊤
EndsBefore (object ps) rest = ⊤

-- a prefix of an escape, short of all of it
abbrev pub BeginsEscape : List ℕ → Type 0
BeginsEscape e =
    (e ≡ []) ⊎ (e ≡ codes "\\") ⊎ ((ds : List ℕ) × (length ds ≤ 3) × IsHex ds × (e ≡ codes "\\u" ++ ds))

-- More is needed: a value is awaited, or a string or a literal was begun, or a colon, a bracket or
-- a brace may follow, so that a key or a value in a container is complete.
abbrev pub NeedsMore : Option ℕ → List ℕ → Type 0
NeedsMore limit consumed =
    AwaitsValue limit consumed
    ⊎ ((us : List Piece) × (e : List ℕ) × BeginsEscape e × InString limit consumed us e)
    ⊎ InLiteral limit consumed
    ⊎ IsErrorFree limit (consumed ++ codes ":")
    ⊎ IsErrorFree limit (consumed ++ codes "]")
    ⊎ IsErrorFree limit (consumed ++ codes "}")

-- ---- what was consumed ends so

-- text and a character that is not white space
abbrev pub EndsText : Option ℕ → ℕ → List ℕ → Type 0
EndsText limit c consumed =
    (is_white c ≡ false) × ((text : List ℕ) × (consumed ≡ text ++ c ∷ []) × IsAccepted limit text)

-- after a brace or a comma a value of this kind that is not a string
abbrev pub EndsBadKey : Option ℕ → JsonKind → List ℕ → List ℕ → Type 0
EndsBadKey limit k consumed rest =
    (prefix w : List ℕ) × (o : ℕ) × (s : Syntax) × ((o ≡ begin_object) ⊎ (o ≡ value_separator)) × AreWhite w
    × IsSpelled s × IsStrict s × (is_key s ≡ false) × (kind_of (tree_of s) ≡ k)
    × (consumed ≡ prefix ++ o ∷ (w ++ text s)) × AwaitsValue limit (prefix ++ o ∷ w) × EndsBefore s rest

-- `\u` escapes of which a surrogate has no partner, and what ends their run
abbrev pub EndsUnpaired : Option ℕ → List ℕ → Type 0
EndsUnpaired limit consumed =
    (us : List Piece) × (e : List ℕ) × (paired (piece_codes us) ≡ false) × EndsRun e
    × InString limit consumed us e

-- fewer than four hexadecimal digits after `\u`, and c, which is none
abbrev pub EndsBadUnit : Option ℕ → ℕ → List ℕ → Type 0
EndsBadUnit limit c consumed =
    (ds : List ℕ) × (length ds ≤ 3) × IsHex ds × (is_hex c ≡ false)
    × EndsString limit consumed (codes "\\u" ++ (ds ++ c ∷ []))

-- letters of a literal, and c, which is not the next
abbrev pub EndsBadLiteral : Option ℕ → ℕ → List ℕ → Type 0
EndsBadLiteral limit c consumed =
    (l : List ℕ) × (n : ℕ) × IsLiteral l × (0 < n) × (n < length l)
    × BeginsAt limit consumed (take n l ++ c ∷ []) × (slice_index l n ≡ c → ⊥)

-- digits of an integer part that begin with a zero too many
abbrev pub EndsLeadingZero : Option ℕ → List ℕ → List ℕ → Type 0
EndsLeadingZero limit consumed rest =
    (b : Bool) × (ds : List ℕ) × IsTrue (has_leading_zero ds) × AreDigits ds
    × BeginsAt limit consumed (minus_text b ++ ds) × BeginsWithNone is_ascii_digit rest

-- a point with no digit after it
abbrev pub EndsPoint : Option ℕ → List ℕ → List ℕ → Type 0
EndsPoint limit consumed rest =
    (b : Bool) × (ds : List ℕ) × AreIntegerDigits ds
    × BeginsAt limit consumed (minus_text b ++ (ds ++ codes ".")) × BeginsWithNone is_ascii_digit rest

-- the letter of an exponent, perhaps with a sign, and no digit after it
abbrev pub EndsExponent : Option ℕ → List ℕ → List ℕ → Type 0
EndsExponent limit consumed rest =
    (b : Bool) × (ds f : List ℕ) × (l : ℕ) × AreIntegerDigits ds × AreDigits f
    × IsTrue (is_exponent_letter l)
    × ((BeginsAt limit consumed (minus_text b ++ (ds ++ (fraction_text f ++ l ∷ [])))
    × BeginsWithNone (λ c. is_ascii_digit c || is_sign c) rest)
    ⊎ ((s : ℕ) × IsTrue (is_sign s)
    × BeginsAt limit consumed (minus_text b ++ (ds ++ (fraction_text f ++ l ∷ s ∷ [])))
    × BeginsWithNone is_ascii_digit rest))

-- a number whose power is out of range
abbrev pub EndsOutOfRange : Option ℕ → List ℕ → List ℕ → Type 0
EndsOutOfRange limit consumed rest =
    (n : Numeral) × IsNumeral n × (has_leading_zero n.integer ≡ false) × (in_range (value n) ≡ false)
    × BeginsAt limit consumed (spelling n) × BeginsWithNone is_ascii_digit rest

-- ---- the place: what may and what may not follow

-- without its last character c the list has no error, and a quote may not follow it
pub record NoStringAt (limit : Option ℕ) (consumed : List ℕ) (c : ℕ) : Type 0 where
  pub prefix : List ℕ
  pub ends : consumed ≡ prefix ++ c ∷ []
  pub error_free : IsErrorFree limit prefix
  pub no_string : ¬ IsLooselyViable limit (prefix ++ codes "\"")

-- and next is accepted in the place of c
pub record AwaitsAt (limit : Option ℕ) (consumed : List ℕ) (c next : ℕ) : Type 0 where
  pub place : NoStringAt limit consumed c
  pub without_error : IsErrorFree limit (place.prefix ++ next ∷ [])

-- characters that may be between the first error and the place where it is reported
abbrev pub is_late : ℕ → Bool
is_late c = is_hex c || ((c == letter_u) || ((c == reverse_solidus) || is_sign c))

abbrev pub AreLate : List ℕ → Type 0
AreLate [] = ⊤
AreLate (c ∷ cs) = IsTrue (is_late c) × AreLate cs

-- no error, then late characters, then the end
pub record IsPromptly (limit : Option ℕ) (consumed end : List ℕ) : Type 0 where
  pub prefix : List ℕ
  pub late : List ℕ
  pub whole : consumed ≡ prefix ++ (late ++ end)
  pub error_free : IsErrorFree limit prefix
  pub are_late : AreLate late

-- promptly, with its last character c
abbrev pub IsPromptlyBy : Option ℕ → List ℕ → ℕ → Type 0
IsPromptlyBy limit consumed c = IsPromptly limit consumed (c ∷ [])

-- viable in the loose grammar, and no quote may follow: in no string, and where none may begin
abbrev pub NoQuoteFollows : Option ℕ → List ℕ → Type 0
NoQuoteFollows limit consumed = IsLooselyViable limit consumed × ¬ IsLooselyViable limit (consumed ++ codes "\"")

-- ---- what each kind says

-- What an error of the kind says: of what was consumed and what is left, and then of what may and
-- what may not follow. Out of memory is no error of the text: IsInterrupted, below.
abbrev pub KindSays : Option ℕ → JsonParseErrorKind → List ℕ → List ℕ → Type 0
KindSays limit UnexpectedEof consumed rest =
    ((rest ≡ []) × NeedsMore limit consumed)
    × (IsPromptly limit consumed [] × IsLooselyViable limit consumed)
KindSays limit (InvalidCharacter c) consumed rest =
    (BeginsWith c rest × (is_white c ≡ false) × (begins_value c ≡ false))
    × AwaitsValue limit consumed
KindSays limit (ExpectedEof c) consumed rest =
    EndsText limit c consumed
    × (((prefix : List ℕ) × (consumed ≡ prefix ++ c ∷ []) × IsErrorFree limit prefix)
    × ¬ IsLooselyViable limit consumed)
KindSays limit (KeyNotString k) consumed rest =
    EndsBadKey limit k consumed rest
    × (IsErrorFree limit consumed × IsLooselyViable limit (consumed ++ codes ":")
    × ¬ IsViable (IsAccepted limit) consumed)
KindSays limit (ExpectedColon c) consumed rest =
    (EndsWith (c ∷ []) consumed × (is_white c ≡ false) × (c ≡ name_separator → ⊥))
    × (AwaitsAt limit consumed c name_separator × ¬ IsLooselyViable limit consumed)
KindSays limit (ExpectedCommaOrBrace c) consumed rest =
    (EndsWith (c ∷ []) consumed × (is_white c ≡ false) × (c ≡ value_separator → ⊥) × (c ≡ end_object → ⊥))
    × (AwaitsAt limit consumed c end_object × ¬ IsLooselyViable limit consumed)
KindSays limit (ExpectedCommaOrBracket c) consumed rest =
    (EndsWith (c ∷ []) consumed × (is_white c ≡ false) × (c ≡ value_separator → ⊥) × (c ≡ end_array → ⊥))
    × (AwaitsAt limit consumed c end_array × ¬ IsLooselyViable limit consumed)
KindSays limit InvalidUtf16 consumed rest =
    EndsUnpaired limit consumed
    × (((c : ℕ) × IsPromptlyBy limit consumed c) × IsLooselyViable limit consumed
    × ¬ IsViable (IsAccepted limit) consumed)
KindSays limit (InvalidHexDigit c) consumed rest =
    EndsBadUnit limit c consumed × (IsPromptlyBy limit consumed c × ¬ IsLooselyViable limit consumed)
KindSays limit (InvalidEscape c) consumed rest =
    (EndsString limit consumed (reverse_solidus ∷ c ∷ []) × (short_escape c ≡ None) × (c ≡ letter_u → ⊥))
    × (IsPromptlyBy limit consumed c × ¬ IsLooselyViable limit consumed)
KindSays limit (ControlCharacter c) consumed rest =
    (EndsString limit consumed (c ∷ []) × (c < space))
    × (IsPromptlyBy limit consumed c × ¬ IsLooselyViable limit consumed
    × ((prefix : List ℕ) × (consumed ≡ prefix ++ c ∷ []) × IsLooselyViable limit (prefix ++ codes "x")))
KindSays limit (UnexpectedInLiteral c) consumed rest =
    EndsBadLiteral limit c consumed × (NoStringAt limit consumed c × ¬ IsLooselyViable limit consumed)
KindSays limit EmptyInteger consumed rest =
    (BeginsAt limit consumed (codes "-") × BeginsWithNone is_ascii_digit rest)
    × (IsErrorFree limit consumed × NoQuoteFollows limit consumed)
KindSays limit LeadingZero consumed rest =
    EndsLeadingZero limit consumed rest
    × (IsPromptly limit consumed [] × NoQuoteFollows limit consumed × ¬ IsViable (IsAccepted limit) consumed)
KindSays limit EmptyFraction consumed rest =
    EndsPoint limit consumed rest × (IsErrorFree limit consumed × NoQuoteFollows limit consumed)
KindSays limit EmptyExponent consumed rest =
    EndsExponent limit consumed rest × (IsPromptly limit consumed [] × NoQuoteFollows limit consumed)
KindSays limit NumberOutOfRange consumed rest =
    EndsOutOfRange limit consumed rest × (IsPromptly limit consumed [] × NoQuoteFollows limit consumed)
KindSays limit OutOfMemory consumed rest = ⊥
KindSays limit (TooDeep c) consumed rest =
    (BeginsWith c rest × ((c ≡ begin_array) ⊎ (c ≡ begin_object)) × IsSome limit) × AwaitsValue limit consumed

-- ---- what an error says

-- without its last character the list is viable in the loose grammar
abbrev pub IsNotTooLate : Option ℕ → List ℕ → Type 0
IsNotTooLate limit consumed =
    (prefix : List ℕ) (c : ℕ) → consumed ≡ prefix ++ c ∷ [] → IsLooselyViable limit prefix

-- An error for another cause than memory.
pub record IsRefusal (limit : Option ℕ) (kind : JsonParseErrorKind) (consumed rest : List ℕ) : Type 0 where
  -- the fact of its kind, and the place
  pub says : KindSays limit kind consumed rest
  -- the list has no tree
  pub refused : ¬ IsAccepted limit (consumed ++ rest)
  -- all was consumed, or the next character makes an error
  pub not_too_soon : (c : ℕ) (more : List ℕ) → rest ≡ c ∷ more → ¬ IsErrorFree limit (consumed ++ c ∷ [])
  pub not_too_late : IsNotTooLate limit consumed

-- Memory ran out: where that may come, and nothing of what is left.
pub record IsInterrupted (limit : Option ℕ) (consumed : List ℕ) : Type 0 where
  -- no error, then late characters, or what is said of a surrogate that has no partner
  pub place : IsPromptly limit consumed [] ⊎ KindSays limit InvalidUtf16 consumed []
  -- some list completes it to a text of the loose grammar
  pub viable : IsLooselyViable limit consumed

-- begins a string, a number or a container
abbrev pub begins_growth : ℕ → Bool
begins_growth c = (c == quotation_mark) || ((c == begin_array) || ((c == begin_object) || ((c == minus_sign) || is_ascii_digit c)))

-- The first character that is not white space begins a string, a number or a container.
pub record MayGrow (xs : List ℕ) : Type 0 where
  pub before : List ℕ
  pub first : ℕ
  pub more : List ℕ
  pub whole : xs ≡ before ++ first ∷ more
  pub white : AreWhite before
  pub grows : IsTrue (begins_growth first)

-- What an error of the kind says, of what was consumed and of what is left.
abbrev pub RefusalSays : Option ℕ → JsonParseErrorKind → List ℕ → List ℕ → Type 0
RefusalSays limit OutOfMemory consumed rest = IsInterrupted limit consumed × MayGrow (consumed ++ rest)
RefusalSays limit kind consumed rest = IsRefusal limit kind consumed rest
