-- The grammar of RFC 9535, with its five functions: which text is which query. A rule of the RFC's ABNF that
-- has parts is a type here. `Rule xs v ys` means that the characters xs begin with a text of the rule, that v
-- is its value, and that ys follow it. A run of blanks, of digits, or of the characters of a name or of a
-- number is as long as possible; in the RFC's rules such a run is never followed by one more of its
-- characters.
use Rattle.std.specs.Prelude.{◌≡◌, ℕ, zero, suc, ◌+◌, ◌-◌, ◌*◌, Bool, true, false, not, ◌&&◌, ◌||◌, ◌==◌, nat_le, cond, List, [], ◌∷◌}
use Rattle.std.specs.Prelude.{◌++◌, codes, Option, Some, None, ℤ, pos, neg_ℤ}
use Rattle.std.specs.Char.{digit_value}
use Rattle.tinyjson.specs.Characters.{minus_sign, digit_zero, begin_array, end_array, name_separator, value_separator, space, is_white}
use Rattle.tinyjson.specs.Characters.{quotation_mark, reverse_solidus, solidus, backspace, form_feed, line_feed, carriage_return}
use Rattle.tinyjson.specs.Characters.{horizontal_tab, decimal_point, letter_b, letter_f, letter_n, letter_r, letter_t, letter_u}
use Rattle.tinyjson.specs.Characters.{is_hex, is_high, is_low, is_surrogate, pair_of}
use Rattle.tinyjson.specs.Characters.{plus_sign, letter_e, capital_e}
use Rattle.tinyjson.specs.Number.{Decimal, IsNumberText}
use Rattle.tinyjson_path_query.specs.declared.query.ComparisonOperator.{ComparisonOperator}
use Rattle.tinyjson_path_query.specs.declared.query.ComparisonOperator.TheVariants.{Equal, NotEqual, Less, LessOrEqual}
use Rattle.tinyjson_path_query.specs.declared.query.ComparisonOperator.TheVariants.{Greater, GreaterOrEqual}
use Rattle.tinyjson_path_query.specs.declared.query.Origin.{Origin}
use Rattle.tinyjson_path_query.specs.declared.query.Origin.TheVariants.{Root, CurrentNode}
use Rattle.tinyjson_path_query.specs.declared.query.PatternFunction.{PatternFunction}
use Rattle.tinyjson_path_query.specs.declared.query.PatternFunction.TheVariants.{Match, Search}
use Rattle.tinyjson_path_query.specs.Forms.{PlainSelector, Selector, Segment, Function, Comparable, Operand, Basic, Expression, Argument}
use Rattle.tinyjson_path_query.specs.Forms as form
use Rattle.tinyjson_path_query.specs.Values.{Literal, SingularSegment}
use Rattle.tinyjson_path_query.specs.Values as value

abbrev pub root_identifier : ℕ
root_identifier = 36

abbrev pub apostrophe : ℕ
apostrophe = 39

abbrev pub asterisk : ℕ
asterisk = 42

abbrev pub low_line : ℕ
low_line = 95

abbrev pub question_mark : ℕ
question_mark = 63

abbrev pub current_node_identifier : ℕ
current_node_identifier = 64

abbrev pub exclamation_mark : ℕ
exclamation_mark = 33

abbrev pub left_parenthesis : ℕ
left_parenthesis = 40

abbrev pub right_parenthesis : ℕ
right_parenthesis = 41

abbrev pub ampersand : ℕ
ampersand = 38

abbrev pub vertical_line : ℕ
vertical_line = 124

abbrev pub less_than_sign : ℕ
less_than_sign = 60

abbrev pub equals_sign : ℕ
equals_sign = 61

abbrev pub greater_than_sign : ℕ
greater_than_sign = 62

-- runs of characters

-- S = *B: the text after the blanks
abbrev pub after_blanks : List ℕ → List ℕ
after_blanks [] = []
after_blanks (c ∷ cs) = cond (is_white c) (after_blanks cs) (c ∷ cs)

-- ALPHA
abbrev pub is_alpha : ℕ → Bool
is_alpha c = (nat_le 65 c && nat_le c 90) || (nat_le 97 c && nat_le c 122)

-- name-first
abbrev pub is_name_first : ℕ → Bool
is_name_first c = is_alpha c || ((c == low_line) || nat_le 128 c)

-- DIGIT
abbrev pub is_digit : ℕ → Bool
is_digit c = nat_le digit_zero c && nat_le c 57

-- DIGIT1
abbrev pub is_digit1 : ℕ → Bool
is_digit1 c = nat_le 49 c && nat_le c 57

-- name-char
abbrev pub is_name_char : ℕ → Bool
is_name_char c = is_name_first c || is_digit c

-- *name-char: the longest such front, and the text after it
abbrev pub name_chars : List ℕ → List ℕ × List ℕ
name_chars [] = ([], [])
name_chars (c ∷ cs) = cond (is_name_char c) (c ∷ (name_chars cs).0, (name_chars cs).1) ([], c ∷ cs)

-- *DIGIT: the number of the longest such front, after the digits of n, and the text after it
abbrev pub digits_on : ℕ → List ℕ → ℕ × List ℕ
digits_on n [] = (n, [])
digits_on n (c ∷ cs) = cond (is_digit c) (digits_on (10 * n + (c - digit_zero)) cs) (n, c ∷ cs)

-- DIGIT, "-", "+", "." and "e" in both cases
abbrev pub is_number_char : ℕ → Bool
is_number_char c =
    is_digit c || ((c == minus_sign) || ((c == plus_sign) || ((c == decimal_point) || ((c == letter_e) || (c == capital_e)))))

-- the longest front of such characters, and the text after it
abbrev pub number_chars : List ℕ → List ℕ × List ℕ
number_chars [] = ([], [])
number_chars (c ∷ cs) = cond (is_number_char c) (c ∷ (number_chars cs).0, (number_chars cs).1) ([], c ∷ cs)

abbrev pub true_word : List ℕ
true_word = codes "true"

abbrev pub false_word : List ℕ
false_word = codes "false"

abbrev pub null_word : List ℕ
null_word = codes "null"

-- function names, each with its parenthesis
abbrev pub length_call : List ℕ
length_call = codes "length("

abbrev pub count_call : List ℕ
count_call = codes "count("

abbrev pub value_call : List ℕ
value_call = codes "value("

abbrev pub pattern_call : PatternFunction → List ℕ
pattern_call Match = codes "match("
pattern_call Search = codes "search("

-- the text begins with the character
abbrev pub begins_with : ℕ → List ℕ → Bool
begins_with c [] = false
begins_with c (d ∷ ds) = d == c

-- ---- integers (2.1)

-- 2^53 - 1
abbrev pub greatest_exact : ℕ
greatest_exact = 9007199254740991

-- DIGIT1 *DIGIT, in the range of exact integers
pub data MagnitudeText : List ℕ → ℕ → List ℕ → Type 0 where
  digits : {xs ys : List ℕ} {n : ℕ} (c : ℕ) → is_digit1 c ≡ true → digits_on (c - digit_zero) xs ≡ (n, ys) → nat_le n greatest_exact ≡ true
      → MagnitudeText (c ∷ xs) n ys

-- int
pub data IntText : List ℕ → ℤ → List ℕ → Type 0 where
  nought : {xs : List ℕ} → IntText (digit_zero ∷ xs) (pos 0) xs
  positive : {xs ys : List ℕ} {n : ℕ} → MagnitudeText xs n ys → IntText xs (pos n) ys
  negative : {xs ys : List ℕ} {n : ℕ} → MagnitudeText xs n ys → IntText (minus_sign ∷ xs) (neg_ℤ (pos n)) ys

-- ---- strings (2.3.1.1)

-- unescaped, and the other kind of quote
abbrev pub is_unescaped : ℕ → ℕ → Bool
is_unescaped quote c = nat_le space c && (not (c == quote) && not (c == reverse_solidus))

-- escapable, except for codes, and the string's own quote
abbrev pub escape_of : ℕ → ℕ → Option ℕ
escape_of quote c =
    cond (c == quote) (Some c)
    (cond (c == letter_b) (Some backspace)
    (cond (c == letter_f) (Some form_feed)
    (cond (c == letter_n) (Some line_feed)
    (cond (c == letter_r) (Some carriage_return)
    (cond (c == letter_t) (Some horizontal_tab)
    (cond (c == solidus) (Some c)
    (cond (c == reverse_solidus) (Some c) None)))))))

-- HEXDIG
pub data HexText : List ℕ → ℕ → List ℕ → Type 0 where
  digit : {xs : List ℕ} (c : ℕ) → is_hex c ≡ true → HexText (c ∷ xs) (digit_value c) xs

-- 4HEXDIG
pub data CodeText : List ℕ → ℕ → List ℕ → Type 0 where
  code : {xs ys zs us vs : List ℕ} {a b c d : ℕ} → HexText xs a ys → HexText ys b zs → HexText zs c us → HexText us d vs
      → CodeText xs (((a * 16 + b) * 16 + c) * 16 + d) vs

-- what follows a backslash: escapable, or the string's own quote
pub data EscapeText : ℕ → List ℕ → ℕ → List ℕ → Type 0 where
  letter : {quote : ℕ} {xs : List ℕ} (l c : ℕ) → escape_of quote l ≡ Some c → EscapeText quote (l ∷ xs) c xs
  non_surrogate : {quote : ℕ} {xs ys : List ℕ} {c : ℕ} → CodeText xs c ys → is_surrogate c ≡ false → EscapeText quote (letter_u ∷ xs) c ys
  surrogates : {quote : ℕ} {xs ys zs : List ℕ} {high low : ℕ} → CodeText xs high (reverse_solidus ∷ letter_u ∷ ys) → is_high high ≡ true
      → CodeText ys low zs → is_low low ≡ true → EscapeText quote (letter_u ∷ xs) (pair_of high low) zs

-- double-quoted, single-quoted
pub data CharacterText : ℕ → List ℕ → ℕ → List ℕ → Type 0 where
  unescaped : {quote : ℕ} {xs : List ℕ} (c : ℕ) → is_unescaped quote c ≡ true → CharacterText quote (c ∷ xs) c xs
  escaped : {quote : ℕ} {xs ys : List ℕ} {c : ℕ} → EscapeText quote xs c ys → CharacterText quote (reverse_solidus ∷ xs) c ys

-- *double-quoted or *single-quoted, and the quote that ends the string
pub data QuotedText : ℕ → List ℕ → List ℕ → List ℕ → Type 0 where
  closed : {quote : ℕ} {xs : List ℕ} → QuotedText quote (quote ∷ xs) [] xs
  more : {quote : ℕ} {xs ys zs : List ℕ} {c : ℕ} {cs : List ℕ} → CharacterText quote xs c ys → QuotedText quote ys cs zs
      → QuotedText quote xs (c ∷ cs) zs

-- string-literal
pub data StringText : List ℕ → List ℕ → List ℕ → Type 0 where
  double : {xs cs ys : List ℕ} → QuotedText quotation_mark xs cs ys → StringText (quotation_mark ∷ xs) cs ys
  single : {xs cs ys : List ℕ} → QuotedText apostrophe xs cs ys → StringText (apostrophe ∷ xs) cs ys

-- ---- selectors (2.3)

-- [start S], and [end S]
pub data BoundText : List ℕ → Option ℤ → List ℕ → Type 0 where
  absent : {xs : List ℕ} → BoundText xs None xs
  present : {xs ys zs : List ℕ} {i : ℤ} → IntText xs i ys → after_blanks ys ≡ zs → BoundText xs (Some i) zs

-- [":" [S step]]
pub data StepText : List ℕ → Option ℤ → List ℕ → Type 0 where
  absent : {xs : List ℕ} → StepText xs None xs
  empty : {xs : List ℕ} → StepText (name_separator ∷ xs) None xs
  present : {xs ys : List ℕ} {i : ℤ} → IntText (after_blanks xs) i ys → StepText (name_separator ∷ xs) (Some i) ys

-- selector, except filter-selector
pub data PlainSelectorText : List ℕ → PlainSelector → List ℕ → Type 0 where
  name : {xs cs ys : List ℕ} → StringText xs cs ys → PlainSelectorText xs (form.name cs) ys
  wildcard : {xs : List ℕ} → PlainSelectorText (asterisk ∷ xs) form.wildcard xs
  slice : {xs ys zs us : List ℕ} {start end step : Option ℤ} → BoundText xs start (name_separator ∷ ys)
      → BoundText (after_blanks ys) end zs → StepText zs step us → PlainSelectorText xs (form.slice start end step) us
  index : {xs ys : List ℕ} {i : ℤ} → IntText xs i ys → PlainSelectorText xs (form.index i) ys

-- the texts of values of a type
abbrev pub TextsOf : Type 0 → Type 1
TextsOf A = List ℕ → A → List ℕ → Type 0

-- selector; T are the texts of an expression
pub data SelectorText {E : Type 0} (T : TextsOf E) : List ℕ → Selector E → List ℕ → Type 0 where
  plain : {xs ys : List ℕ} {v : PlainSelector} → PlainSelectorText xs v ys → SelectorText T xs (form.plain v) ys
  filter : {xs ys : List ℕ} {e : E} → T (after_blanks xs) e ys → SelectorText T (question_mark ∷ xs) (form.filter e) ys

-- ---- segments (2.5)

-- bracketed-selection after its bracket: S selector *(S "," S selector) S "]"
pub data SelectionText {E : Type 0} (T : TextsOf E) : List ℕ → List (Selector E) → List ℕ → Type 0 where
  last : {xs ys zs : List ℕ} {v : Selector E} → SelectorText T (after_blanks xs) v ys → after_blanks ys ≡ end_array ∷ zs
      → SelectionText T xs (v ∷ []) zs
  more : {xs ys zs us : List ℕ} {v : Selector E} {vs : List (Selector E)} → SelectorText T (after_blanks xs) v ys
      → after_blanks ys ≡ value_separator ∷ zs → SelectionText T zs vs us → SelectionText T xs (v ∷ vs) us

-- wildcard-selector, or member-name-shorthand
pub data ShorthandText : List ℕ → PlainSelector → List ℕ → Type 0 where
  wildcard : {xs : List ℕ} → ShorthandText (asterisk ∷ xs) form.wildcard xs
  name : {xs cs ys : List ℕ} (c : ℕ) → is_name_first c ≡ true → name_chars xs ≡ (cs, ys) → ShorthandText (c ∷ xs) (form.name (c ∷ cs)) ys

-- child-segment, descendant-segment
pub data SegmentText {E : Type 0} (T : TextsOf E) : List ℕ → Segment E → List ℕ → Type 0 where
  bracketed_child : {xs ys : List ℕ} {vs : List (Selector E)} → SelectionText T xs vs ys
      → SegmentText T (begin_array ∷ xs) (form.child vs) ys
  child : {xs ys : List ℕ} {v : PlainSelector} → ShorthandText xs v ys
      → SegmentText T (decimal_point ∷ xs) (form.child (form.plain v ∷ [])) ys
  bracketed_descendant : {xs ys : List ℕ} {vs : List (Selector E)} → SelectionText T xs vs ys
      → SegmentText T (decimal_point ∷ decimal_point ∷ begin_array ∷ xs) (form.descendant vs) ys
  descendant : {xs ys : List ℕ} {v : PlainSelector} → ShorthandText xs v ys
      → SegmentText T (decimal_point ∷ decimal_point ∷ xs) (form.descendant (form.plain v ∷ [])) ys

-- segments = *(S segment)
pub data SegmentsText {E : Type 0} (T : TextsOf E) : List ℕ → List (Segment E) → List ℕ → Type 0 where
  none : {xs : List ℕ} → SegmentsText T xs [] xs
  more : {xs ys zs : List ℕ} {s : Segment E} {ss : List (Segment E)} → SegmentText T (after_blanks xs) s ys → SegmentsText T ys ss zs
      → SegmentsText T xs (s ∷ ss) zs

-- ---- comparisons (2.3.5.1)

-- number: (int / "-0") [ frac ] [ exp ]: a number of RFC 8259, section 6, as an exact decimal whose power of
-- ten fits an i64
pub data NumberText : List ℕ → Decimal → List ℕ → Type 0 where
  run : {xs ds ys : List ℕ} {d : Decimal} → number_chars xs ≡ (ds, ys) → IsNumberText ds d → NumberText xs d ys

-- literal
pub data LiteralText : List ℕ → Literal → List ℕ → Type 0 where
  number : {xs ys : List ℕ} {d : Decimal} → NumberText xs d ys → LiteralText xs (value.number d) ys
  string : {xs cs ys : List ℕ} → StringText xs cs ys → LiteralText xs (value.string cs) ys
  is_true : {xs : List ℕ} → LiteralText (true_word ++ xs) (value.boolean true) xs
  is_false : {xs : List ℕ} → LiteralText (false_word ++ xs) (value.boolean false) xs
  is_null : {xs : List ℕ} → LiteralText (null_word ++ xs) value.null xs

-- name-segment, index-segment
pub data SingularSegmentText : List ℕ → SingularSegment → List ℕ → Type 0 where
  bracketed_name : {xs cs ys : List ℕ} → StringText xs cs (end_array ∷ ys) → SingularSegmentText (begin_array ∷ xs) (value.name cs) ys
  name : {xs cs ys : List ℕ} (c : ℕ) → is_name_first c ≡ true → name_chars xs ≡ (cs, ys)
      → SingularSegmentText (decimal_point ∷ c ∷ xs) (value.name (c ∷ cs)) ys
  index : {xs ys : List ℕ} {i : ℤ} → IntText xs i (end_array ∷ ys) → SingularSegmentText (begin_array ∷ xs) (value.index i) ys

-- singular-query-segments = *(S (name-segment / index-segment))
pub data SingularSegmentsText : List ℕ → List SingularSegment → List ℕ → Type 0 where
  none : {xs : List ℕ} → SingularSegmentsText xs [] xs
  more : {xs ys zs : List ℕ} {s : SingularSegment} {ss : List SingularSegment} → SingularSegmentText (after_blanks xs) s ys
      → SingularSegmentsText ys ss zs → SingularSegmentsText xs (s ∷ ss) zs

-- filter-query: rel-query, jsonpath-query
pub data FilterQueryText {E : Type 0} (T : TextsOf E) : List ℕ → Origin × List (Segment E) → List ℕ → Type 0 where
  relative : {xs ys : List ℕ} {ss : List (Segment E)} → SegmentsText T xs ss ys
      → FilterQueryText T (current_node_identifier ∷ xs) (CurrentNode, ss) ys
  absolute : {xs ys : List ℕ} {ss : List (Segment E)} → SegmentsText T xs ss ys
      → FilterQueryText T (root_identifier ∷ xs) (Root, ss) ys

-- an argument, and the parenthesis that ends a function: S argument S ")"
pub data ClosedText {A : Type 0} (T : TextsOf A) : List ℕ → A → List ℕ → Type 0 where
  closed : {xs ys zs : List ℕ} {a : A} → T (after_blanks xs) a ys → after_blanks ys ≡ right_parenthesis ∷ zs → ClosedText T xs a zs

-- function-expr, as in 2.4.3 to 2.4.8; A are the texts of a value: `length` takes a value, `count` and
-- `value` take a query
pub data FunctionText {E C : Type 0} (T : TextsOf E) (A : TextsOf C) : List ℕ → Function E C → List ℕ → Type 0 where
  length_of : {xs ys : List ℕ} {c : C} → ClosedText A xs c ys → FunctionText T A (length_call ++ xs) (form.length c) ys
  count_of : {xs ys : List ℕ} {o : Origin} {ss : List (Segment E)} → ClosedText (FilterQueryText T) xs (o, ss) ys
      → FunctionText T A (count_call ++ xs) (form.count o ss) ys
  value_of : {xs ys : List ℕ} {o : Origin} {ss : List (Segment E)} → ClosedText (FilterQueryText T) xs (o, ss) ys
      → FunctionText T A (value_call ++ xs) (form.value o ss) ys

-- comparable: literal, rel-singular-query, abs-singular-query, function-expr
pub data ComparableText {E C : Type 0} (T : TextsOf E) (A : TextsOf C) : List ℕ → Comparable E C → List ℕ → Type 0 where
  literal : {xs ys : List ℕ} {l : Literal} → LiteralText xs l ys → ComparableText T A xs (form.literal l) ys
  relative : {xs ys : List ℕ} {ss : List SingularSegment} → SingularSegmentsText xs ss ys
      → ComparableText T A (current_node_identifier ∷ xs) (form.singular CurrentNode ss) ys
  absolute : {xs ys : List ℕ} {ss : List SingularSegment} → SingularSegmentsText xs ss ys
      → ComparableText T A (root_identifier ∷ xs) (form.singular Root ss) ys
  function : {xs ys : List ℕ} {f : Function E C} → FunctionText T A xs f ys → ComparableText T A xs (form.function f) ys

-- comparison-op; no comparable begins with "="
pub data OperatorText : List ℕ → ComparisonOperator → List ℕ → Type 0 where
  equal : {xs : List ℕ} → OperatorText (equals_sign ∷ equals_sign ∷ xs) Equal xs
  not_equal : {xs : List ℕ} → OperatorText (exclamation_mark ∷ equals_sign ∷ xs) NotEqual xs
  less_or_equal : {xs : List ℕ} → OperatorText (less_than_sign ∷ equals_sign ∷ xs) LessOrEqual xs
  greater_or_equal : {xs : List ℕ} → OperatorText (greater_than_sign ∷ equals_sign ∷ xs) GreaterOrEqual xs
  less : {xs : List ℕ} → begins_with equals_sign xs ≡ false → OperatorText (less_than_sign ∷ xs) Less xs
  greater : {xs : List ℕ} → begins_with equals_sign xs ≡ false → OperatorText (greater_than_sign ∷ xs) Greater xs

-- ---- logical expressions (2.3.5.1)

-- paren-expr and test-expr, without their logical-not-op; of the functions, `match` and `search` are tests of
-- two values (2.4.6, 2.4.7)
pub data OperandText {E C : Type 0} (T : TextsOf E) (A : TextsOf C) : List ℕ → Operand E C → List ℕ → Type 0 where
  parenthesized : {xs ys zs : List ℕ} {e : E} → T (after_blanks xs) e ys → after_blanks ys ≡ right_parenthesis ∷ zs
      → OperandText T A (left_parenthesis ∷ xs) (form.parenthesized e) zs
  relative : {xs ys : List ℕ} {ss : List (Segment E)} → SegmentsText T xs ss ys
      → OperandText T A (current_node_identifier ∷ xs) (form.test CurrentNode ss) ys
  absolute : {xs ys : List ℕ} {ss : List (Segment E)} → SegmentsText T xs ss ys
      → OperandText T A (root_identifier ∷ xs) (form.test Root ss) ys
  pattern : (f : PatternFunction) (xs : List ℕ) {ys zs us : List ℕ} {v p : C} → A (after_blanks xs) v ys
      → after_blanks ys ≡ value_separator ∷ zs → ClosedText A zs p us → OperandText T A (pattern_call f ++ xs) (form.pattern f v p) us

-- basic-expr = paren-expr / comparison-expr / test-expr, where comparison-expr = comparable S comparison-op S comparable
pub data BasicText {E C : Type 0} (T : TextsOf E) (A : TextsOf C) : List ℕ → Basic E C → List ℕ → Type 0 where
  affirmed : {xs ys : List ℕ} {o : Operand E C} → OperandText T A xs o ys → BasicText T A xs (form.affirmed o) ys
  negated : {xs ys : List ℕ} {o : Operand E C} → OperandText T A (after_blanks xs) o ys
      → BasicText T A (exclamation_mark ∷ xs) (form.negated o) ys
  comparison : {xs ys zs us : List ℕ} {l r : Comparable E C} {op : ComparisonOperator} → ComparableText T A xs l ys
      → OperatorText (after_blanks ys) op zs → ComparableText T A (after_blanks zs) r us → BasicText T A xs (form.comparison op l r) us

-- one or more texts of T, with the sign, written twice, between each two: *(S sign sign S ..)
pub data JoinedText {A : Type 0} (sign : ℕ) (T : TextsOf A) : List ℕ → List A → List ℕ → Type 0 where
  last : {xs ys : List ℕ} {a : A} → T xs a ys → JoinedText sign T xs (a ∷ []) ys
  more : {xs ys zs us : List ℕ} {a : A} {as' : List A} → T xs a ys → after_blanks ys ≡ sign ∷ sign ∷ zs
      → JoinedText sign T (after_blanks zs) as' us → JoinedText sign T xs (a ∷ as') us

-- logical-and-expr = basic-expr *(S "&&" S basic-expr)
abbrev pub ConjunctionText : {E C : Type 0} → TextsOf E → TextsOf C → TextsOf (List (Basic E C))
ConjunctionText T A = JoinedText ampersand (BasicText T A)

-- logical-or-expr = logical-and-expr *(S "||" S logical-and-expr)
abbrev pub DisjunctionText : {E C : Type 0} → TextsOf E → TextsOf C → TextsOf (List (List (Basic E C)))
DisjunctionText T A = JoinedText vertical_line (ConjunctionText T A)

-- logical-expr, and a function-argument that is a value, of which fewer than n are nested
abbrev mutual
  pub ExpressionText : (n : ℕ) → TextsOf (Expression n)
  ExpressionText zero xs e ys = ⊥
  ExpressionText (suc n) xs e ys = DisjunctionText (ExpressionText n) (ArgumentText n) xs e ys

  pub ArgumentText : (n : ℕ) → TextsOf (Argument n)
  ArgumentText zero xs c ys = ⊥
  ArgumentText (suc n) xs c ys = ComparableText (ExpressionText n) (ArgumentText n) xs c ys

-- jsonpath-query (2.1), with at most n nested logical expressions
pub data QueryText (n : ℕ) : List ℕ → List (Segment (Expression n)) → Type 0 where
  query : {xs : List ℕ} {ss : List (Segment (Expression n))} → SegmentsText (ExpressionText n) xs ss []
      → QueryText n (root_identifier ∷ xs) ss
