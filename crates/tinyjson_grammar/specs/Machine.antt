-- The parser as a machine over characters, for private contracts. `strict` refuses what the grammar refuses;
-- otherwise the four conditions are off.
use Rattle.std.specs.Prelude.{ℕ, Bool, true, false, cond, ◌||◌, ◌&&◌, ◌==◌, not}
use Rattle.std.specs.Prelude.{List, [], ◌∷◌, ◌++◌, Option, Some, None, length, nat_lt, codes}
use Rattle.std.specs.Char.{is_ascii_digit}
use Rattle.tinyjson_number.specs.Numeral.{is_exponent_letter, Numeral, Exponent, has_leading_zero, value, in_range}
use Rattle.tinyjson_grammar.specs.Tree.{Tree, null, boolean, number, string, array, object}
use Rattle.tinyjson_grammar.specs.Tree.{Members, no_members, put, items_of, is_string, key_of}
use Rattle.tinyjson_grammar.specs.Characters.{is_white, is_hex, short_escape, unit_of, decode, paired}
use Rattle.tinyjson_grammar.specs.Kind.{kind_of}
use Rattle.tinyjson_grammar.specs.declared.error.JsonParseErrorKind.{JsonParseErrorKind}
use Rattle.tinyjson_grammar.specs.declared.error.JsonParseErrorKind.TheVariants.{UnexpectedEof, InvalidCharacter, ExpectedEof}
use Rattle.tinyjson_grammar.specs.declared.error.JsonParseErrorKind.TheVariants.{KeyNotString, ExpectedColon, ExpectedCommaOrBrace}
use Rattle.tinyjson_grammar.specs.declared.error.JsonParseErrorKind.TheVariants.{ExpectedCommaOrBracket, InvalidUtf16, InvalidHexDigit}
use Rattle.tinyjson_grammar.specs.declared.error.JsonParseErrorKind.TheVariants.{InvalidEscape, ControlCharacter, UnexpectedInLiteral}
use Rattle.tinyjson_grammar.specs.declared.error.JsonParseErrorKind.TheVariants.{EmptyInteger, LeadingZero, EmptyFraction, EmptyExponent}
use Rattle.tinyjson_grammar.specs.declared.error.JsonParseErrorKind.TheVariants.{NumberOutOfRange, TooDeep}
use Rattle.tinyjson_grammar.specs.Characters.{begin_array, begin_object, decimal_point, end_array, end_object}
use Rattle.tinyjson_grammar.specs.Characters.{letter_e, letter_f, letter_n, letter_t, letter_u, minus_sign}
use Rattle.tinyjson_grammar.specs.Characters.{name_separator, plus_sign, quotation_mark, reverse_solidus, space}
use Rattle.tinyjson_grammar.specs.Characters.{value_separator}

-- the rules that the machine is run by
pub record Rules : Type 0 where
  pub strict : Bool
  pub limit : Option ℕ

abbrev pub strictly : Option ℕ → Rules
strictly limit = record { strict = true; limit = limit }

-- An open container: an array with its items, an object that awaits a key, an object that awaits the value of a key.
pub data Frame : Type 0 where
  in_array : List Tree → Frame
  at_key : Members → Frame
  at_value : Members → List ℕ → Frame

pub data Stage : Type 0 where
  minus : Stage
  integer : Stage
  point : Stage
  fraction : Stage
  letter : Stage
  sign : Stage
  exponent : Stage

pub data Within : Type 0 where
  plain : Within
  backslash : Within
  hex : List ℕ → Within

-- What is awaited, or what is being read.
pub data Phase : Type 0 where
  first : Phase
  awaited : Phase
  literal : List ℕ → Tree → Phase
  digits : Stage → Numeral → Phase
  quoted : Within → List ℕ → List ℕ → Phase
  colon : List ℕ → Phase
  after : Phase
  finished : Tree → Phase

pub record State : Type 0 where
  pub frames : List Frame
  pub phase : Phase

-- The next state, or an error, with whether it takes the character.
pub data Next : Type 0 where
  next : List Frame → Phase → Next
  stop : JsonParseErrorKind → Bool → Next

pub data Outcome : Type 0 where
  accepted : Tree → Outcome
  refused : JsonParseErrorKind → List ℕ → Outcome

abbrev pub fits : Option ℕ → ℕ → Bool
fits None n = true
fits (Some limit) n = nat_lt n limit

-- where a value is complete
abbrev pub complete_key : Bool → List Frame → Members → Tree → Bool → Next
complete_key strict fs ms t taken = cond (strict && not (is_string t)) (stop (KeyNotString (kind_of t)) taken)
    (next (at_key ms ∷ fs) (colon (key_of t)))

abbrev pub complete : Bool → List Frame → Tree → Bool → Next
complete strict [] t taken = next [] (finished t)
complete strict (in_array ts ∷ fs) t taken = next (in_array (ts ++ t ∷ []) ∷ fs) after
complete strict (at_key ms ∷ fs) t taken = complete_key strict fs ms t taken
complete strict (at_value ms k ∷ fs) t taken = next (at_key (put k t ms) ∷ fs) after

abbrev pub push_frame : Rules → List Frame → Frame → ℕ → Next
push_frame r fs f c = cond (fits r.limit (length fs)) (next (f ∷ fs) first) (stop (TooDeep c) false)

-- the first character of a value
abbrev pub start : Rules → List Frame → ℕ → Next
start r fs c =
    cond (c == letter_n) (next fs (literal (codes "ull") null))
    (cond (c == letter_t) (next fs (literal (codes "rue") (boolean true)))
    (cond (c == letter_f) (next fs (literal (codes "alse") (boolean false)))
    (cond (c == quotation_mark) (next fs (quoted plain [] []))
    (cond (c == begin_array) (push_frame r fs (in_array []) c)
    (cond (c == begin_object) (push_frame r fs (at_key no_members) c)
    (cond (c == minus_sign) (next fs (digits minus (record { negative = true; integer = []; fraction = []; exponent = None })))
    (cond (is_ascii_digit c) (next fs (digits integer (record { negative = false; integer = c ∷ []; fraction = []; exponent = None })))
    (stop (InvalidCharacter c) false))))))))

abbrev pub step_awaited : Rules → List Frame → ℕ → Next
step_awaited r fs c = cond (is_white c) (next fs awaited) (start r fs c)

-- a bracket may close the container that was just opened
abbrev pub step_first : Rules → List Frame → ℕ → Next
step_first r [] c = start r [] c
step_first r (in_array ts ∷ fs) c = cond (c == end_array) (complete r.strict fs (array (items_of ts)) true) (start r (in_array ts ∷ fs) c)
step_first r (at_key ms ∷ fs) c = cond (c == end_object) (complete r.strict fs (object ms) true) (start r (at_key ms ∷ fs) c)
step_first r (at_value ms k ∷ fs) c = start r (at_value ms k ∷ fs) c

abbrev pub step_after : Rules → List Frame → ℕ → Next
step_after r [] c = stop (ExpectedEof c) true
step_after r (in_array ts ∷ fs) c =
    cond (c == value_separator) (next (in_array ts ∷ fs) awaited)
    (cond (c == end_array) (complete r.strict fs (array (items_of ts)) true) (stop (ExpectedCommaOrBracket c) true))
step_after r (at_key ms ∷ fs) c =
    cond (c == value_separator) (next (at_key ms ∷ fs) awaited)
    (cond (c == end_object) (complete r.strict fs (object ms) true) (stop (ExpectedCommaOrBrace c) true))
step_after r (at_value ms k ∷ fs) c = stop (ExpectedCommaOrBrace c) true

abbrev pub step_colon : List Frame → List ℕ → ℕ → Next
step_colon [] k c = stop (ExpectedColon c) true
step_colon (in_array ts ∷ fs) k c = stop (ExpectedColon c) true
step_colon (at_key ms ∷ fs) k c = cond (c == name_separator) (next (at_value ms k ∷ fs) awaited) (stop (ExpectedColon c) true)
step_colon (at_value ms j ∷ fs) k c = stop (ExpectedColon c) true

abbrev pub step_literal : Rules → List Frame → List ℕ → Tree → ℕ → Next
step_literal r fs [] t c = stop (UnexpectedInLiteral c) true
step_literal r fs (l ∷ []) t c = cond (c == l) (complete r.strict fs t true) (stop (UnexpectedInLiteral c) true)
step_literal r fs (l ∷ m ∷ ls) t c = cond (c == l) (next fs (literal (m ∷ ls) t)) (stop (UnexpectedInLiteral c) true)

-- ---- strings

abbrev pub flush : Bool → List ℕ → List ℕ → (List ℕ → Next) → Next
flush strict cs us go = cond (strict && not (paired us)) (stop InvalidUtf16 true) (go (cs ++ decode us))

abbrev pub step_escape : Rules → List Frame → List ℕ → List ℕ → ℕ → Option ℕ → Next
step_escape r fs cs us c None = cond (c == letter_u) (next fs (quoted (hex []) cs us)) (stop (InvalidEscape c) true)
step_escape r fs cs us c (Some d) = flush r.strict cs us (λ xs. next fs (quoted plain (xs ++ d ∷ []) []))

abbrev pub step_quoted : Rules → List Frame → Within → List ℕ → List ℕ → ℕ → Next
step_quoted r fs plain cs us c =
    cond (c == quotation_mark) (flush r.strict cs us (λ xs. complete r.strict fs (string xs) true))
    (cond (c == reverse_solidus) (next fs (quoted backslash cs us))
    (cond (nat_lt c space) (stop (ControlCharacter c) true)
    (flush r.strict cs us (λ xs. next fs (quoted plain (xs ++ c ∷ []) [])))))
step_quoted r fs backslash cs us c = step_escape r fs cs us c (short_escape c)
step_quoted r fs (hex ds) cs us c =
    cond (is_hex c)
    (cond (nat_lt (length ds) 3) (next fs (quoted (hex (ds ++ c ∷ [])) cs us))
    (next fs (quoted plain cs (us ++ unit_of 0 (ds ++ c ∷ []) ∷ []))))
    (stop (InvalidHexDigit c) true)

-- ---- numbers

abbrev pub with_exponent : Numeral → ℕ → Numeral
with_exponent n c = record n { exponent = Some (record { letter = c; sign = None; digits = [] }) }

abbrev pub exponent_or : Option Exponent → Exponent
exponent_or None = record { letter = letter_e; sign = None; digits = [] }
exponent_or (Some e) = e

abbrev pub with_sign : Numeral → ℕ → Numeral
with_sign n c = record n { exponent = Some (record (exponent_or n.exponent) { sign = Some c }) }

abbrev pub with_exponent_digit : Numeral → ℕ → Numeral
with_exponent_digit n c = record n {
  exponent = Some
      (record (exponent_or n.exponent) { digits = (exponent_or n.exponent).digits ++ c ∷ [] });
}

-- the numeral is complete: the power is tested
abbrev pub finish : Rules → List Frame → Numeral → Next
finish r fs n = cond (r.strict && not (in_range (value n))) (stop NumberOutOfRange false) (complete r.strict fs (number (value n)) false)

-- what follows the digits before the point, once they end
abbrev pub after_integer : Rules → List Frame → Numeral → ℕ → Option Next
after_integer r fs n c =
    cond (r.strict && has_leading_zero n.integer) (Some (stop LeadingZero false))
    (cond (c == decimal_point) (Some (next fs (digits point n)))
    (cond (is_exponent_letter c) (Some (next fs (digits letter (with_exponent n c)))) None))

-- None where the numeral ends before c
abbrev pub step_digits : Rules → List Frame → Stage → Numeral → ℕ → Option Next
step_digits r fs minus n c = Some (cond (is_ascii_digit c) (next fs (digits integer (record n { integer = c ∷ [] })))
    (stop EmptyInteger false))
step_digits r fs integer n c = cond (is_ascii_digit c)
    (Some (next fs (digits integer (record n { integer = n.integer ++ c ∷ [] })))) (after_integer r fs n c)
step_digits r fs point n c = Some (cond (is_ascii_digit c) (next fs (digits fraction (record n { fraction = c ∷ [] })))
    (stop EmptyFraction false))
step_digits r fs fraction n c =
    cond (is_ascii_digit c) (Some (next fs (digits fraction (record n { fraction = n.fraction ++ c ∷ [] }))))
    (cond (is_exponent_letter c) (Some (next fs (digits letter (with_exponent n c)))) None)
step_digits r fs letter n c =
    Some (cond (is_ascii_digit c) (next fs (digits exponent (with_exponent_digit n c)))
    (cond ((c == plus_sign) || (c == minus_sign)) (next fs (digits sign (with_sign n c))) (stop EmptyExponent false)))
step_digits r fs sign n c = Some (cond (is_ascii_digit c) (next fs (digits exponent (with_exponent_digit n c))) (stop EmptyExponent false))
step_digits r fs exponent n c = cond (is_ascii_digit c) (Some (next fs (digits exponent (with_exponent_digit n c)))) None

-- ---- all phases but a numeral, which may end before the character

abbrev pub step_plain : Rules → List Frame → Phase → ℕ → Next
step_plain r fs first c = cond (is_white c) (next fs first) (step_first r fs c)
step_plain r fs awaited c = step_awaited r fs c
step_plain r fs (literal ls t) c = step_literal r fs ls t c
step_plain r fs (digits s n) c = stop (ExpectedEof c) true
step_plain r fs (quoted w cs us) c = step_quoted r fs w cs us c
step_plain r fs (colon k) c = cond (is_white c) (next fs (colon k)) (step_colon fs k c)
step_plain r fs after c = cond (is_white c) (next fs after) (step_after r fs c)
step_plain r fs (finished t) c = cond (is_white c) (next fs (finished t)) (stop (ExpectedEof c) true)

abbrev pub then_step : Rules → Next → ℕ → Next
then_step r (next fs p) c = step_plain r fs p c
then_step r (stop k taken) c = stop k taken

abbrev pub unless_ended : Rules → List Frame → Numeral → ℕ → Option Next → Next
unless_ended r fs n c None = then_step r (finish r fs n) c
unless_ended r fs n c (Some m) = m

unfoldable pub step : Rules → List Frame → Phase → ℕ → Next
step r fs first c = step_plain r fs first c
step r fs awaited c = step_plain r fs awaited c
step r fs (literal ls t) c = step_plain r fs (literal ls t) c
step r fs (digits s n) c = unless_ended r fs n c (step_digits r fs s n c)
step r fs (quoted w cs us) c = step_plain r fs (quoted w cs us) c
step r fs (colon k) c = step_plain r fs (colon k) c
step r fs after c = step_plain r fs after c
step r fs (finished t) c = step_plain r fs (finished t) c

-- ---- the end of the characters

abbrev pub end_plain : Next → Outcome
end_plain (stop k taken) = refused k []
end_plain (next fs first) = refused UnexpectedEof []
end_plain (next fs awaited) = refused UnexpectedEof []
end_plain (next fs (literal ls t)) = refused UnexpectedEof []
end_plain (next fs (digits s n)) = refused UnexpectedEof []
end_plain (next fs (quoted w cs us)) = refused UnexpectedEof []
end_plain (next fs (colon k)) = refused UnexpectedEof []
end_plain (next fs after) = refused UnexpectedEof []
end_plain (next fs (finished t)) = accepted t

abbrev pub end_digits : Rules → List Frame → Stage → Numeral → Outcome
end_digits r fs minus n = refused EmptyInteger []
end_digits r fs integer n = cond (r.strict && has_leading_zero n.integer) (refused LeadingZero []) (end_plain (finish r fs n))
end_digits r fs point n = refused EmptyFraction []
end_digits r fs fraction n = end_plain (finish r fs n)
end_digits r fs letter n = refused EmptyExponent []
end_digits r fs sign n = refused EmptyExponent []
end_digits r fs exponent n = end_plain (finish r fs n)

unfoldable pub end : Rules → List Frame → Phase → Outcome
end r fs first = refused UnexpectedEof []
end r fs awaited = refused UnexpectedEof []
end r fs (literal ls t) = refused UnexpectedEof []
end r fs (digits s n) = end_digits r fs s n
end r fs (quoted w cs us) = refused UnexpectedEof []
end r fs (colon k) = refused UnexpectedEof []
end r fs after = refused UnexpectedEof []
end r fs (finished t) = accepted t

abbrev pub rest_of : Bool → ℕ → List ℕ → List ℕ
rest_of true c cs = cs
rest_of false c cs = c ∷ cs

abbrev pub go_on : (List Frame → Phase → Outcome) → Next → List ℕ → List ℕ → Outcome
go_on more (next fs p) all rest = more fs p
go_on more (stop k true) all rest = refused k rest
go_on more (stop k false) all rest = refused k all

-- What comes of the characters from a state on.
unfoldable pub run : Rules → List Frame → Phase → List ℕ → Outcome
run r fs p [] = end r fs p
run r fs p (c ∷ cs) = go_on (λ gs q. run r gs q cs) (step r fs p c) (c ∷ cs) cs

-- The state after the characters, if the machine takes them all.
abbrev pub reach_on : (List Frame → Phase → Option State) → Next → Option State
reach_on more (next fs p) = more fs p
reach_on more (stop k b) = None

unfoldable pub reach : Rules → List Frame → Phase → List ℕ → Option State
reach r fs p [] = Some (record { frames = fs; phase = p })
reach r fs p (c ∷ cs) = reach_on (λ gs q. reach r gs q cs) (step r fs p c)
