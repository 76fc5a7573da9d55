-- The first part of a text, and the text after it; for private contracts.
use Rattle.std.specs.Prelude.{ℕ, zero, suc, ◌+◌, ◌-◌, ◌*◌, Bool, true, false, ◌&&◌, ◌||◌, ◌==◌, nat_le, cond, List, [], ◌∷◌}
use Rattle.std.specs.Prelude.{length}
use Rattle.std.specs.Prelude.{Option, Some, None, option_map, option_and_then, ℤ, pos, neg_ℤ}
use Rattle.std.specs.Char.{digit_value}
use Rattle.tinyjson.specs.Characters.{minus_sign, digit_zero, begin_array, end_array, name_separator, value_separator}
use Rattle.tinyjson.specs.Characters.{quotation_mark, reverse_solidus, decimal_point, letter_u}
use Rattle.tinyjson.specs.Characters.{is_hex, is_high, is_low, pair_of}
use Rattle.tinyjson.specs.Number.{Decimal}
use Rattle.tinyjson_path_query.specs.declared.query.ComparisonOperator.{ComparisonOperator}
use Rattle.tinyjson_path_query.specs.declared.query.ComparisonOperator.TheVariants.{Equal, NotEqual, Less, LessOrEqual}
use Rattle.tinyjson_path_query.specs.declared.query.ComparisonOperator.TheVariants.{Greater, GreaterOrEqual}
use Rattle.tinyjson_path_query.specs.declared.query.Origin.{Origin}
use Rattle.tinyjson_path_query.specs.declared.query.Origin.TheVariants.{Root, CurrentNode}
use Rattle.tinyjson_path_query.specs.declared.query.PatternFunction.{PatternFunction}
use Rattle.tinyjson_path_query.specs.declared.query.PatternFunction.TheVariants.{Match, Search}
use Rattle.tinyjson_path_query.specs.Forms.{PlainSelector, name, wildcard, index, slice, Selector, plain, filter}
use Rattle.tinyjson_path_query.specs.Forms.{Segment, child, descendant}
use Rattle.tinyjson_path_query.specs.Forms.{Operand, parenthesized, test, Function, Comparable, literal, singular}
use Rattle.tinyjson_path_query.specs.Forms.{Basic, affirmed, negated, comparison, Expression, Argument}
use Rattle.tinyjson_path_query.specs.Forms as form
use Rattle.tinyjson_path_query.specs.Values.{Literal, SingularSegment}
use Rattle.tinyjson_path_query.specs.Values as value
use Rattle.tinyjson_path_query.specs.Numerals.{spelled_decimal}
use Rattle.tinyjson_path_query.specs.Grammar.{number_chars, is_number_char, true_word, false_word, null_word}
use Rattle.tinyjson_path_query.specs.Grammar.{length_call, count_call, value_call, pattern_call}
use Rattle.tinyjson_path_query.specs.Grammar.{equals_sign, less_than_sign, greater_than_sign}
use Rattle.tinyjson_path_query.specs.Grammar.{root_identifier, apostrophe, asterisk, after_blanks, is_name_first, is_digit, is_digit1}
use Rattle.tinyjson_path_query.specs.Grammar.{question_mark, current_node_identifier, exclamation_mark, left_parenthesis, right_parenthesis}
use Rattle.tinyjson_path_query.specs.Grammar.{ampersand, vertical_line}
use Rattle.tinyjson_path_query.specs.Grammar.{name_chars, digits_on}
use Rattle.tinyjson_path_query.specs.Grammar.{greatest_exact, is_unescaped, escape_of}

-- ---- integers

abbrev pub exact_front : ℕ × List ℕ → Option (ℕ × List ℕ)
exact_front p = cond (nat_le p.0 greatest_exact) (Some p) None

abbrev pub magnitude_front : List ℕ → Option (ℕ × List ℕ)
magnitude_front [] = None
magnitude_front (c ∷ cs) = cond (is_digit1 c) (exact_front (digits_on (c - digit_zero) cs)) None

abbrev pub with_minus : ℕ × List ℕ → ℤ × List ℕ
with_minus p = (neg_ℤ (pos p.0), p.1)

abbrev pub unsigned : ℕ × List ℕ → ℤ × List ℕ
unsigned p = (pos p.0, p.1)

abbrev pub int_front : List ℕ → Option (ℤ × List ℕ)
int_front [] = None
int_front (c ∷ cs) =
    cond (c == digit_zero) (Some (pos 0, cs))
    (cond (c == minus_sign) (option_map with_minus (magnitude_front cs))
    (option_map unsigned (magnitude_front (c ∷ cs))))

-- ---- strings

abbrev pub hex_front : List ℕ → Option (ℕ × List ℕ)
hex_front [] = None
hex_front (c ∷ cs) = cond (is_hex c) (Some (digit_value c, cs)) None

abbrev pub shifted : ℕ → ℕ × List ℕ → ℕ × List ℕ
shifted n p = (n * 16 + p.0, p.1)

-- one more digit
abbrev pub digit_on : ℕ × List ℕ → Option (ℕ × List ℕ)
digit_on q = option_map (shifted q.0) (hex_front q.1)

abbrev pub code_front : List ℕ → Option (ℕ × List ℕ)
code_front xs = option_and_then digit_on (option_and_then digit_on (option_and_then digit_on (hex_front xs)))

abbrev pub low_end : ℕ → ℕ × List ℕ → Option (ℕ × List ℕ)
low_end high p = cond (is_low p.0) (Some (pair_of high p.0, p.1)) None

abbrev pub low_front : ℕ → List ℕ → Option (ℕ × List ℕ)
low_front high cs = option_and_then (low_end high) (code_front cs)

abbrev pub pair_front : ℕ → List ℕ → Option (ℕ × List ℕ)
pair_front high (c ∷ d ∷ cs) = cond ((c == reverse_solidus) && (d == letter_u)) (low_front high cs) None
pair_front high xs = None

abbrev pub unicode_end : ℕ × List ℕ → Option (ℕ × List ℕ)
unicode_end p = cond (is_high p.0) (pair_front p.0 p.1) (cond (is_low p.0) None (Some p))

abbrev pub unicode_front : List ℕ → Option (ℕ × List ℕ)
unicode_front xs = option_and_then unicode_end (code_front xs)

abbrev pub before : List ℕ → ℕ → ℕ × List ℕ
before cs d = (d, cs)

abbrev pub escape_front : ℕ → List ℕ → Option (ℕ × List ℕ)
escape_front quote [] = None
escape_front quote (c ∷ cs) = cond (c == letter_u) (unicode_front cs) (option_map (before cs) (escape_of quote c))

abbrev pub character_front : ℕ → List ℕ → Option (ℕ × List ℕ)
character_front quote [] = None
character_front quote (c ∷ cs) =
    cond (c == reverse_solidus) (escape_front quote cs) (cond (is_unescaped quote c) (Some (c, cs)) None)

-- a turn of a loop: it ends, or ends with one more element, or goes on after one more
pub data Turn (A : Type 0) : Type 0 where
  end : List ℕ → Turn A
  last : A → List ℕ → Turn A
  more : A → List ℕ → Turn A

abbrev pub with_first : {A : Type 0} → A → List A × List ℕ → List A × List ℕ
with_first a r = (a ∷ r.0, r.1)

abbrev pub then_turn : {A : Type 0} → (List ℕ → Option (List A × List ℕ)) → Turn A → Option (List A × List ℕ)
then_turn go (end ys) = Some ([], ys)
then_turn go (last a ys) = Some (a ∷ [], ys)
then_turn go (more a ys) = option_map (with_first a) (go ys)

-- fewer than n turns
abbrev pub turns : {A : Type 0} → (List ℕ → Option (Turn A)) → ℕ → List ℕ → Option (List A × List ℕ)
turns turn zero xs = None
turns turn (suc n) xs = option_and_then (then_turn (turns turn n)) (turn xs)

-- as many turns as a text can have
abbrev pub all_turns : {A : Type 0} → (List ℕ → Option (Turn A)) → List ℕ → Option (List A × List ℕ)
all_turns turn xs = turns turn (suc (length xs)) xs

abbrev pub more_of : {A : Type 0} → A × List ℕ → Turn A
more_of p = more p.0 p.1

abbrev pub string_turn : ℕ → List ℕ → Option (Turn ℕ)
string_turn quote [] = None
string_turn quote (c ∷ cs) = cond (c == quote) (Some (end cs)) (option_map more_of (character_front quote (c ∷ cs)))

abbrev pub quoted_front : ℕ → List ℕ → Option (List ℕ × List ℕ)
quoted_front quote xs = all_turns (string_turn quote) xs

-- ---- selectors, and the blanks after them

abbrev pub begins_int : List ℕ → Bool
begins_int [] = false
begins_int (c ∷ cs) = (c == minus_sign) || is_digit c

abbrev pub present_bound : ℤ × List ℕ → Option ℤ × List ℕ
present_bound p = (Some p.0, after_blanks p.1)

abbrev pub bound_front : List ℕ → Option (Option ℤ × List ℕ)
bound_front xs = cond (begins_int xs) (option_map present_bound (int_front xs)) (Some (None, xs))

abbrev pub step_front : List ℕ → Option (Option ℤ × List ℕ)
step_front [] = Some (None, [])
step_front (c ∷ cs) = cond (c == name_separator) (bound_front (after_blanks cs)) (Some (None, c ∷ cs))

abbrev pub whole_slice : Option ℤ → Option ℤ → Option ℤ × List ℕ → PlainSelector × List ℕ
whole_slice start stop q = (slice start stop q.0, q.1)

abbrev pub slice_end : Option ℤ → Option ℤ × List ℕ → Option (PlainSelector × List ℕ)
slice_end start p = option_map (whole_slice start p.0) (step_front p.1)

-- a slice, after its first colon
abbrev pub slice_front : Option ℤ → List ℕ → Option (PlainSelector × List ℕ)
slice_front start xs = option_and_then (slice_end start) (bound_front (after_blanks xs))

abbrev pub index_end : ℤ → List ℕ → Option (PlainSelector × List ℕ)
index_end i [] = Some (index i, [])
index_end i (c ∷ cs) = cond (c == name_separator) (slice_front (Some i) cs) (Some (index i, c ∷ cs))

abbrev pub int_end : ℤ × List ℕ → Option (PlainSelector × List ℕ)
int_end p = index_end p.0 (after_blanks p.1)

abbrev pub int_selector_front : List ℕ → Option (PlainSelector × List ℕ)
int_selector_front xs = option_and_then int_end (int_front xs)

abbrev pub named : List ℕ × List ℕ → PlainSelector × List ℕ
named p = (name p.0, after_blanks p.1)

abbrev pub is_quote : ℕ → Bool
is_quote c = (c == quotation_mark) || (c == apostrophe)

abbrev pub plain_front : List ℕ → Option (PlainSelector × List ℕ)
plain_front [] = None
plain_front (c ∷ cs) =
    cond (is_quote c) (option_map named (quoted_front c cs))
    (cond (c == asterisk) (Some (wildcard, after_blanks cs))
    (cond (c == name_separator) (slice_front None cs)
    (int_selector_front (c ∷ cs))))

abbrev pub FrontOf : Type 0 → Type 0
FrontOf A = List ℕ → Option (A × List ℕ)

abbrev pub filtered : {E : Type 0} → E × List ℕ → Selector E × List ℕ
filtered p = (filter p.0, p.1)

abbrev pub as_plain : {E : Type 0} → PlainSelector × List ℕ → Selector E × List ℕ
as_plain p = (plain p.0, p.1)

-- F parses an expression
abbrev pub selector_front : {E : Type 0} → FrontOf E → FrontOf (Selector E)
selector_front F [] = None
selector_front F (c ∷ cs) =
    cond (c == question_mark) (option_map filtered (F (after_blanks cs))) (option_map as_plain (plain_front (c ∷ cs)))

-- ---- segments

abbrev pub separator : {E : Type 0} → Selector E → List ℕ → Option (Turn (Selector E))
separator v [] = None
separator v (c ∷ cs) = cond (c == value_separator) (Some (more v cs)) (cond (c == end_array) (Some (last v cs)) None)

abbrev pub separated : {E : Type 0} → Selector E × List ℕ → Option (Turn (Selector E))
separated p = separator p.0 p.1

abbrev pub selection_turn : {E : Type 0} → FrontOf E → List ℕ → Option (Turn (Selector E))
selection_turn F xs = option_and_then separated (selector_front F (after_blanks xs))

-- bracketed-selection, after its bracket
abbrev pub selection_front : {E : Type 0} → FrontOf E → FrontOf (List (Selector E))
selection_front F xs = all_turns (selection_turn F) xs

abbrev pub shorthand_front : FrontOf PlainSelector
shorthand_front [] = None
shorthand_front (c ∷ cs) =
    cond (c == asterisk) (Some (wildcard, cs))
    (cond (is_name_first c) (Some (name (c ∷ (name_chars cs).0), (name_chars cs).1)) None)

abbrev pub child_of : {E : Type 0} → List (Selector E) × List ℕ → Segment E × List ℕ
child_of p = (child p.0, p.1)

abbrev pub descendant_of : {E : Type 0} → List (Selector E) × List ℕ → Segment E × List ℕ
descendant_of p = (descendant p.0, p.1)

abbrev pub alone : {E : Type 0} → PlainSelector × List ℕ → List (Selector E) × List ℕ
alone p = (plain p.0 ∷ [], p.1)

-- a descendant segment, after its two points
abbrev pub descendant_front : {E : Type 0} → FrontOf E → FrontOf (Segment E)
descendant_front F [] = None
descendant_front F (c ∷ cs) =
    cond (c == begin_array) (option_map descendant_of (selection_front F cs))
    (option_map descendant_of (option_map alone (shorthand_front (c ∷ cs))))

-- a segment, after its first point
abbrev pub dotted_front : {E : Type 0} → FrontOf E → FrontOf (Segment E)
dotted_front F [] = None
dotted_front F (c ∷ cs) =
    cond (c == decimal_point) (descendant_front F cs) (option_map child_of (option_map alone (shorthand_front (c ∷ cs))))

abbrev pub segment_front : {E : Type 0} → FrontOf E → FrontOf (Segment E)
segment_front F [] = None
segment_front F (c ∷ cs) =
    cond (c == begin_array) (option_map child_of (selection_front F cs))
    (cond (c == decimal_point) (dotted_front F cs) None)

abbrev pub begins_segment : List ℕ → Bool
begins_segment [] = false
begins_segment (c ∷ cs) = (c == begin_array) || (c == decimal_point)

abbrev pub segments_turn : {E : Type 0} → FrontOf E → List ℕ → Option (Turn (Segment E))
segments_turn F xs =
    cond (begins_segment (after_blanks xs)) (option_map more_of (segment_front F (after_blanks xs))) (Some (end xs))

abbrev pub segments_front : {E : Type 0} → FrontOf E → FrontOf (List (Segment E))
segments_front F xs = all_turns (segments_turn F) xs

-- ---- logical expressions, and the blanks after them

-- the text after one sign
abbrev pub behind : ℕ → List ℕ → Option (List ℕ)
behind sign [] = None
behind sign (c ∷ cs) = cond (c == sign) (Some cs) None

abbrev pub closed : {E C : Type 0} → E → List ℕ → Operand E C × List ℕ
closed e ys = (parenthesized e, after_blanks ys)

abbrev pub closing : {E C : Type 0} → E × List ℕ → Option (Operand E C × List ℕ)
closing p = option_map (closed p.0) (behind right_parenthesis p.1)

abbrev pub tested : {E C : Type 0} → Origin → List (Segment E) × List ℕ → Operand E C × List ℕ
tested o p = (test o p.0, after_blanks p.1)

-- the root of a query in a filter that begins with this character
abbrev pub origin_of : ℕ → Option Origin
origin_of c = cond (c == current_node_identifier) (Some CurrentNode) (cond (c == root_identifier) (Some Root) None)

-- the text after a word
abbrev pub behind_word : List ℕ → List ℕ → Option (List ℕ)
behind_word [] xs = Some xs
behind_word (w ∷ ws) xs = option_and_then (behind_word ws) (behind w xs)

abbrev pub held : {A : Type 0} → A → List ℕ → A × List ℕ
held a ys = (a, ys)

-- what ends with a closing parenthesis
abbrev pub in_parentheses : {A : Type 0} → A × List ℕ → Option (A × List ℕ)
in_parentheses p = option_map (held p.0) (behind right_parenthesis (after_blanks p.1))

abbrev pub closed_front : {A : Type 0} → FrontOf A → FrontOf A
closed_front G xs = option_and_then in_parentheses (G (after_blanks xs))

abbrev pub as_pattern : {E C : Type 0} → PatternFunction → C → C × List ℕ → Operand E C × List ℕ
as_pattern f v p = (form.pattern f v p.0, after_blanks p.1)

-- the second argument, after the comma
abbrev pub second_front : {E C : Type 0} → FrontOf C → PatternFunction → C → FrontOf (Operand E C)
second_front G f v ys = option_map (as_pattern f v) (closed_front G ys)

-- after the first argument
abbrev pub first_end : {E C : Type 0} → FrontOf C → PatternFunction → C × List ℕ → Option (Operand E C × List ℕ)
first_end G f p = option_and_then (second_front G f p.0) (behind value_separator (after_blanks p.1))

-- the arguments of `match` or `search`, after the name and the parenthesis
abbrev pub arguments_front : {E C : Type 0} → FrontOf C → PatternFunction → FrontOf (Operand E C)
arguments_front G f xs = option_and_then (first_end G f) (G (after_blanks xs))

-- whether the text begins with the name of the function
abbrev pub search_end : {E C : Type 0} → FrontOf C → Option (List ℕ) → Option (Operand E C × List ℕ)
search_end G None = None
search_end G (Some ys) = arguments_front G Search ys

abbrev pub match_end : {E C : Type 0} → FrontOf C → List ℕ → Option (List ℕ) → Option (Operand E C × List ℕ)
match_end G xs None = search_end G (behind_word (pattern_call Search) xs)
match_end G xs (Some ys) = arguments_front G Match ys

abbrev pub pattern_front : {E C : Type 0} → FrontOf C → FrontOf (Operand E C)
pattern_front G xs = match_end G xs (behind_word (pattern_call Match) xs)

-- a query that begins there, or no query
abbrev pub tested_front : {E C : Type 0} → FrontOf E → FrontOf C → ℕ → List ℕ → Option Origin → Option (Operand E C × List ℕ)
tested_front F G c cs None = pattern_front G (c ∷ cs)
tested_front F G c cs (Some o) = option_map (tested o) (segments_front F cs)

abbrev pub operand_front : {E C : Type 0} → FrontOf E → FrontOf C → FrontOf (Operand E C)
operand_front F G [] = None
operand_front F G (c ∷ cs) =
    cond (c == left_parenthesis) (option_and_then closing (F (after_blanks cs))) (tested_front F G c cs (origin_of c))

-- ---- comparisons

abbrev pub numbered : List ℕ → Decimal → Literal × List ℕ
numbered ys d = (value.number d, ys)

abbrev pub number_front : List ℕ → Option (Literal × List ℕ)
number_front xs = option_map (numbered (number_chars xs).1) (spelled_decimal (number_chars xs).0)

abbrev pub either : {A : Type 0} → Option A → Option A → Option A
either None o = o
either (Some a) o = Some a

abbrev pub meaning : Literal → List ℕ → Literal × List ℕ
meaning l ys = (l, ys)

abbrev pub word_front : List ℕ → Option (Literal × List ℕ)
word_front xs =
    either (option_map (meaning (value.boolean true)) (behind_word true_word xs))
    (either (option_map (meaning (value.boolean false)) (behind_word false_word xs))
    (option_map (meaning value.null) (behind_word null_word xs)))

abbrev pub as_string : List ℕ × List ℕ → Literal × List ℕ
as_string p = (value.string p.0, p.1)

abbrev pub literal_front : List ℕ → Option (Literal × List ℕ)
literal_front [] = None
literal_front (c ∷ cs) =
    cond (is_quote c) (option_map as_string (quoted_front c cs))
    (cond (is_number_char c) (number_front (c ∷ cs)) (word_front (c ∷ cs)))

-- what ends with a closing bracket
abbrev pub name_before : List ℕ × List ℕ → Option (SingularSegment × List ℕ)
name_before p = option_map (λ ys. (value.name p.0, ys)) (behind end_array p.1)

abbrev pub index_before : ℤ × List ℕ → Option (SingularSegment × List ℕ)
index_before p = option_map (λ ys. (value.index p.0, ys)) (behind end_array p.1)

-- a segment with one selector, after its bracket
abbrev pub bracketed_front : List ℕ → Option (SingularSegment × List ℕ)
bracketed_front [] = None
bracketed_front (c ∷ cs) =
    cond (is_quote c) (option_and_then name_before (quoted_front c cs)) (option_and_then index_before (int_front (c ∷ cs)))

-- a segment with one selector, after its point
abbrev pub name_front : List ℕ → Option (SingularSegment × List ℕ)
name_front [] = None
name_front (c ∷ cs) = cond (is_name_first c) (Some (value.name (c ∷ (name_chars cs).0), (name_chars cs).1)) None

abbrev pub singular_segment_front : List ℕ → Option (SingularSegment × List ℕ)
singular_segment_front [] = None
singular_segment_front (c ∷ cs) =
    cond (c == begin_array) (bracketed_front cs) (cond (c == decimal_point) (name_front cs) None)

-- one more segment, or the end if there is none
abbrev pub singular_end : List ℕ → Option (SingularSegment × List ℕ) → Turn SingularSegment
singular_end xs None = end xs
singular_end xs (Some p) = more p.0 p.1

abbrev pub singular_turn : List ℕ → Option (Turn SingularSegment)
singular_turn xs = Some (singular_end xs (singular_segment_front (after_blanks xs)))

abbrev pub singular_front : List ℕ → Option (List SingularSegment × List ℕ)
singular_front xs = all_turns singular_turn xs

abbrev pub as_query : {E : Type 0} → Origin → List (Segment E) × List ℕ → (Origin × List (Segment E)) × List ℕ
as_query o p = ((o, p.0), p.1)

abbrev pub begun_front : {E : Type 0} → FrontOf E → List ℕ → Origin → Option ((Origin × List (Segment E)) × List ℕ)
begun_front F cs o = option_map (as_query o) (segments_front F cs)

abbrev pub filter_query_front : {E : Type 0} → FrontOf E → FrontOf (Origin × List (Segment E))
filter_query_front F [] = None
filter_query_front F (c ∷ cs) = option_and_then (begun_front F cs) (origin_of c)

abbrev pub as_length : {E C : Type 0} → C × List ℕ → Function E C × List ℕ
as_length p = (form.length p.0, p.1)

abbrev pub as_count : {E C : Type 0} → (Origin × List (Segment E)) × List ℕ → Function E C × List ℕ
as_count p = (form.count p.0.0 p.0.1, p.1)

abbrev pub as_value : {E C : Type 0} → (Origin × List (Segment E)) × List ℕ → Function E C × List ℕ
as_value p = (form.value p.0.0 p.0.1, p.1)

-- whether the text begins with the name of the function
abbrev pub value_end : {E C : Type 0} → FrontOf E → Option (List ℕ) → Option (Function E C × List ℕ)
value_end F None = None
value_end F (Some ys) = option_map as_value (closed_front (filter_query_front F) ys)

abbrev pub count_end : {E C : Type 0} → FrontOf E → List ℕ → Option (List ℕ) → Option (Function E C × List ℕ)
count_end F xs None = value_end F (behind_word value_call xs)
count_end F xs (Some ys) = option_map as_count (closed_front (filter_query_front F) ys)

abbrev pub length_end : {E C : Type 0} → FrontOf E → FrontOf C → List ℕ → Option (List ℕ) → Option (Function E C × List ℕ)
length_end F G xs None = count_end F xs (behind_word count_call xs)
length_end F G xs (Some ys) = option_map as_length (closed_front G ys)

abbrev pub function_front : {E C : Type 0} → FrontOf E → FrontOf C → FrontOf (Function E C)
function_front F G xs = length_end F G xs (behind_word length_call xs)

-- the character begins the name of a function
abbrev pub begins_call : ℕ → Bool
begins_call c = (c == 108) || ((c == 99) || (c == 118))

-- the character begins `match` or `search`
abbrev pub begins_pattern : ℕ → Bool
begins_pattern c = (c == 109) || (c == 115)

abbrev pub as_singular : {E C : Type 0} → Origin → List SingularSegment × List ℕ → Comparable E C × List ℕ
as_singular o p = (singular o p.0, p.1)

abbrev pub as_literal : {E C : Type 0} → Literal × List ℕ → Comparable E C × List ℕ
as_literal p = (literal p.0, p.1)

abbrev pub as_function : {E C : Type 0} → Function E C × List ℕ → Comparable E C × List ℕ
as_function p = (form.function p.0, p.1)

abbrev pub compared_front : {E C : Type 0} → FrontOf E → FrontOf C → ℕ → List ℕ → Option Origin → Option (Comparable E C × List ℕ)
compared_front F G c cs None =
    cond (begins_call c) (option_map as_function (function_front F G (c ∷ cs))) (option_map as_literal (literal_front (c ∷ cs)))
compared_front F G c cs (Some o) = option_map (as_singular o) (singular_front cs)

abbrev pub comparable_front : {E C : Type 0} → FrontOf E → FrontOf C → FrontOf (Comparable E C)
comparable_front F G [] = None
comparable_front F G (c ∷ cs) = compared_front F G c cs (origin_of c)

-- the operator; `=` after its first sign decides
abbrev pub or_equal : ComparisonOperator → ComparisonOperator → List ℕ → Option (List ℕ) → ComparisonOperator × List ℕ
or_equal strict loose ys None = (strict, ys)
or_equal strict loose ys (Some zs) = (loose, zs)

abbrev pub with_operator : ComparisonOperator → List ℕ → ComparisonOperator × List ℕ
with_operator op ys = (op, ys)

abbrev pub operator_front : List ℕ → Option (ComparisonOperator × List ℕ)
operator_front [] = None
operator_front (c ∷ cs) =
    cond (c == equals_sign) (option_map (with_operator Equal) (behind equals_sign cs))
    (cond (c == exclamation_mark) (option_map (with_operator NotEqual) (behind equals_sign cs))
    (cond (c == less_than_sign) (Some (or_equal Less LessOrEqual cs (behind equals_sign cs)))
    (cond (c == greater_than_sign) (Some (or_equal Greater GreaterOrEqual cs (behind equals_sign cs))) None)))

-- ---- conditions

abbrev pub as_affirmed : {E C : Type 0} → Operand E C × List ℕ → Basic E C × List ℕ
as_affirmed p = (affirmed p.0, p.1)

abbrev pub as_negated : {E C : Type 0} → Operand E C × List ℕ → Basic E C × List ℕ
as_negated p = (negated p.0, p.1)

abbrev pub as_comparison : {E C : Type 0} → ComparisonOperator → Comparable E C → Comparable E C × List ℕ → Basic E C × List ℕ
as_comparison op l p = (comparison op l p.0, after_blanks p.1)

-- after the left operand: an operator and the right one, or no operator
abbrev pub operated_front : {E C : Type 0} → FrontOf E → FrontOf C → List ℕ → Comparable E C → Option (ComparisonOperator × List ℕ)
    → Option (Basic E C × List ℕ)
operated_front F G xs l None = option_map as_affirmed (operand_front F G xs)
operated_front F G xs l (Some p) = option_map (as_comparison p.0 l) (comparable_front F G (after_blanks p.1))

abbrev pub left_end : {E C : Type 0} → FrontOf E → FrontOf C → List ℕ → Comparable E C × List ℕ → Option (Basic E C × List ℕ)
left_end F G xs p = operated_front F G xs p.0 (operator_front (after_blanks p.1))

abbrev pub basic_front : {E C : Type 0} → FrontOf E → FrontOf C → FrontOf (Basic E C)
basic_front F G [] = None
basic_front F G (c ∷ cs) =
    cond (c == exclamation_mark) (option_map as_negated (operand_front F G (after_blanks cs)))
    (cond (c == left_parenthesis) (option_map as_affirmed (operand_front F G (c ∷ cs)))
    (cond (begins_pattern c) (option_map as_affirmed (operand_front F G (c ∷ cs)))
    (option_and_then (left_end F G (c ∷ cs)) (comparable_front F G (c ∷ cs)))))

-- the text after the sign, written twice, and the blanks after it
abbrev pub behind_both : ℕ → List ℕ → Option (List ℕ)
behind_both sign xs = option_map after_blanks (option_and_then (behind sign) (behind sign xs))

-- after one: the sign and more, or the end
abbrev pub joint : {A : Type 0} → A → List ℕ → Option (List ℕ) → Turn A
joint a ys None = last a ys
joint a ys (Some zs) = more a zs

abbrev pub joined : {A : Type 0} → ℕ → A × List ℕ → Turn A
joined sign p = joint p.0 p.1 (behind_both sign p.1)

abbrev pub joined_turn : {A : Type 0} → ℕ → FrontOf A → List ℕ → Option (Turn A)
joined_turn sign F xs = option_map (joined sign) (F xs)

-- one or more, with the sign, written twice, between each two
abbrev pub joined_front : {A : Type 0} → ℕ → FrontOf A → FrontOf (List A)
joined_front sign F xs = all_turns (joined_turn sign F) xs

abbrev pub conjunction_front : {E C : Type 0} → FrontOf E → FrontOf C → FrontOf (List (Basic E C))
conjunction_front F G = joined_front ampersand (basic_front F G)

abbrev pub disjunction_front : {E C : Type 0} → FrontOf E → FrontOf C → FrontOf (List (List (Basic E C)))
disjunction_front F G = joined_front vertical_line (conjunction_front F G)

abbrev mutual
  pub expression_front : (n : ℕ) → FrontOf (Expression n)
  expression_front zero xs = None
  expression_front (suc n) xs = disjunction_front (expression_front n) (argument_front n) xs

  pub argument_front : (n : ℕ) → FrontOf (Argument n)
  argument_front zero xs = None
  argument_front (suc n) xs = comparable_front (expression_front n) (argument_front n) xs

-- ---- a whole query

abbrev pub ended : {E : Type 0} → List (Segment E) × List ℕ → Option (List (Segment E))
ended (ss, []) = Some ss
ended (ss, c ∷ cs) = None

abbrev pub query_front : (n : ℕ) → List ℕ → Option (List (Segment (Expression n)))
query_front n [] = None
query_front n (c ∷ cs) = cond (c == root_identifier) (option_and_then ended (segments_front (expression_front n) cs)) None
