-- What a kind of error means for the text before its place and for the text there.
use Rattle.std.specs.Prelude.{◌≡◌, ℕ, suc, ◌-◌, ◌≤◌, Bool, true, false, not, ◌&&◌, ◌||◌, ◌==◌, nat_le, cond, List, [], ◌∷◌}
use Rattle.std.specs.Prelude.{Option, Some, None}
use Rattle.tinyjson.specs.Characters.{minus_sign, digit_zero, begin_array, end_array, value_separator, quotation_mark}
use Rattle.tinyjson.specs.Characters.{decimal_point, reverse_solidus}
use Rattle.tinyjson.specs.Number.{Spells}
use Rattle.tinyjson.specs.Numeral.{Numeral, value, in_range}
use Rattle.tinyjson_path_query.specs.declared.error.ParseErrorKind.{ParseErrorKind}
use Rattle.tinyjson_path_query.specs.declared.error.ParseErrorKind.TheVariants as kind
use Rattle.tinyjson_path_query.specs.declared.query.PatternFunction.TheVariants.{Match, Search}
use Rattle.tinyjson_path_query.specs.Forms.{nesting_limit}
use Rattle.tinyjson_path_query.specs.Grammar.{number_chars, is_digit, is_digit1, digits_on, greatest_exact, low_line}
use Rattle.tinyjson_path_query.specs.Grammar.{apostrophe, begins_with}
use Rattle.tinyjson_path_query.specs.Grammar.{left_parenthesis, right_parenthesis, exclamation_mark, ampersand, vertical_line}
use Rattle.tinyjson_path_query.specs.Grammar.{less_than_sign, equals_sign, greater_than_sign, true_word, false_word, null_word}
use Rattle.tinyjson_path_query.specs.Grammar.{length_call, count_call, value_call, pattern_call}

-- ---- functions (2.4)

-- the text begins with the word
abbrev pub begins : List ℕ → List ℕ → Bool
begins [] xs = true
begins (w ∷ ws) [] = false
begins (w ∷ ws) (x ∷ xs) = (x == w) && begins ws xs

-- function-name-first
abbrev pub is_letter : ℕ → Bool
is_letter c = nat_le 97 c && nat_le c 122

-- function-name-char
abbrev pub is_function_name_char : ℕ → Bool
is_function_name_char c = is_letter c || ((c == low_line) || is_digit c)

-- *function-name-char "("
abbrev pub ends_name : List ℕ → Bool
ends_name [] = false
ends_name (c ∷ cs) = (c == left_parenthesis) || (is_function_name_char c && ends_name cs)

-- function-name "("
abbrev pub is_call : List ℕ → Bool
is_call [] = false
is_call (c ∷ cs) = is_letter c && ends_name cs

-- a call of one of the five functions
abbrev pub is_known_call : List ℕ → Bool
is_known_call xs =
    begins length_call xs || (begins count_call xs || (begins value_call xs
    || (begins (pattern_call Match) xs || begins (pattern_call Search) xs)))

-- a call of another function
abbrev pub is_unknown_call : List ℕ → Bool
is_unknown_call xs = is_call xs && not (is_known_call xs)

-- ---- indices (2.1)

-- DIGIT1 *DIGIT, above 2^53 - 1
abbrev pub is_large : List ℕ → Bool
is_large [] = false
is_large (c ∷ cs) = is_digit1 c && not (nat_le (digits_on (c - digit_zero) cs).0 greatest_exact)

-- ---- types (2.3.5.1, 2.4.3)

-- the first character of a string or a number, or a word of literals
abbrev pub begins_literal : List ℕ → Bool
begins_literal [] = false
begins_literal (c ∷ cs) =
    ((c == quotation_mark) || (c == apostrophe)) || (((c == minus_sign) || is_digit c)
    || (begins true_word (c ∷ cs) || (begins false_word (c ∷ cs) || begins null_word (c ∷ cs))))

-- a literal, or a call of one of the five functions
abbrev pub begins_value : List ℕ → Bool
begins_value xs = is_known_call xs || begins_literal xs

-- paren-expr, or logical-not-op
abbrev pub begins_condition : List ℕ → Bool
begins_condition xs = begins_with left_parenthesis xs || begins_with exclamation_mark xs

-- comparison-op, "&&", "||" or a segment: with it an operand goes on, and becomes one of another type
abbrev pub begins_operation : List ℕ → Bool
begins_operation [] = false
begins_operation (c ∷ cs) =
    ((c == less_than_sign) || ((c == greater_than_sign) || ((c == decimal_point) || (c == begin_array))))
    || ((((c == equals_sign) || (c == exclamation_mark)) && begins_with equals_sign cs)
    || (((c == ampersand) && begins_with ampersand cs) || ((c == vertical_line) && begins_with vertical_line cs)))

-- something of a type that does not fit
abbrev pub begins_misfit : List ℕ → Bool
begins_misfit xs = begins_value xs || (begins_condition xs || begins_operation xs)

-- ---- numbers

-- the characters of a number at the front spell one whose power of ten is out of range
abbrev pub IsOutOfRange : List ℕ → Type 0
IsOutOfRange xs = (n : Numeral) × Spells n (number_chars xs).0 × (in_range (value n) ≡ false)

-- ---- nesting

-- outside of strings, one more character opens or closes a bracket or a parenthesis, or neither
abbrev pub open_with : ℕ → ℕ → ℕ
open_with n c =
    cond ((c == begin_array) || (c == left_parenthesis)) (suc n)
    (cond ((c == end_array) || (c == right_parenthesis)) (n - 1) n)

-- the string that the character begins, if it is a quote
abbrev pub string_with : ℕ → Option ℕ
string_with c = cond ((c == quotation_mark) || (c == apostrophe)) (Some c) None

-- how many are open after the text, where n are open before it; or it begins in a string with this quote, maybe after
-- a backslash
abbrev pub open_after : ℕ → (quote : Option ℕ) → (escaped : Bool) → List ℕ → ℕ
open_after n quote escaped [] = n
open_after n None escaped (c ∷ cs) = open_after (open_with n c) (string_with c) false cs
open_after n (Some q) escaped (c ∷ cs) =
    open_after n (cond ((c == q) && not escaped) None (Some q)) ((c == reverse_solidus) && not escaped) cs

-- how many brackets and parentheses are open after the text, outside of strings
abbrev pub open_brackets : List ℕ → ℕ
open_brackets front = open_after 0 None false front

-- ---- kinds

-- what the kind means for the text before the place of the error, and for the text there
abbrev pub Says : List ℕ → List ℕ → ParseErrorKind → Type 0
Says front xs kind.Syntax = is_unknown_call xs ≡ false
Says front xs kind.UnknownFunction = is_unknown_call xs ≡ true
Says front xs kind.ArgumentCount = begins_with value_separator xs || begins_with right_parenthesis xs ≡ true
Says front xs kind.TypeMismatch = begins_misfit xs ≡ true
Says front xs kind.IndexOutOfRange = is_large xs ≡ true
Says front xs kind.NumberOutOfRange = IsOutOfRange xs
Says front xs kind.TooDeep = nesting_limit ≤ open_brackets front
Says front xs kind.OutOfMemory = Unit {0}
