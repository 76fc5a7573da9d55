-- The grammar of the patterns of JSON Schema (Core 2020-12, 6.4, with the escapes of ECMA-262,
-- 22.2.1): which text is which pattern.
use Rattle.std.specs.Prelude.{◌≡◌, ℕ, ◌+◌, ◌-◌, ◌*◌, Bool, true, false, not, ◌&&◌, ◌||◌, ◌==◌, nat_le, cond, List, [], ◌∷◌, ◌++◌, ◌⊎◌}
use Rattle.std.specs.Prelude.{Option, Some, None, option_map, option_and_then, map, ◌≤◌, codes}
use Rattle.text_categories.specs.Names.{value_named}
use Rattle.text_categories.specs.declared.Category.{Category}
use Rattle.text_iregexp.specs.Characters.{left_parenthesis, right_parenthesis, vertical_bar, asterisk, plus_sign, question_mark, left_brace}
use Rattle.text_iregexp.specs.Characters.{right_brace, full_stop, left_bracket, circumflex, hyphen, right_bracket}
use Rattle.text_iregexp.specs.Characters.{reverse_solidus, line_feed}
use Rattle.text_iregexp.specs.Characters.{carriage_return, letter_n, letter_r, letter_t, letter_p, capital_p, horizontal_tab, digit_zero}
use Rattle.text_regexp.specs.declared.assertion.Assertion.TheVariants.{Start, End, WordBoundary, NotWordBoundary}
use Rattle.text_regexp.specs.declared.class.Item.{Item}
use Rattle.text_regexp.specs.declared.class.Item.TheVariants.{Range, In, NotIn}
use Rattle.text_iregexp.specs.declared.letter.Letter.{Letter}
use Rattle.text_iregexp.specs.declared.letter.Letter.TheVariants.{Plain, Literal, Named}
use Rattle.text_iregexp.specs.declared.letter.Set.{Set}
use Rattle.text_iregexp.specs.declared.letter.Set.TheVariants as set
use Rattle.text_regexp.specs.Forms.{MatchesIn, next_of, last_of}
use Rattle.text_iregexp.specs.Grammar.{Token, characters, opened, closed, bar, quantifier, asserted, one, is_one_of, is_digit}
use Rattle.text_iregexp.specs.Grammar.{CaretText, begins_with_caret}
use Rattle.text_iregexp.specs.Grammar as regexp
use Rattle.text_iregexp.specs.Grammar.{Branch, branch_tokens, branch_form}
use Rattle.text_iregexp.specs.Limits.{size_limit, branch_size}

-- ---- characters

-- the signs of the beginning and the end of a text
abbrev pub dollar_sign : ℕ
dollar_sign = 36

abbrev pub colon : ℕ
colon = 58

-- the signs of look-aheads
abbrev pub equals_sign : ℕ
equals_sign = 61

abbrev pub exclamation_mark : ℕ
exclamation_mark = 33

-- the signs about the name of a group
abbrev pub less_than : ℕ
less_than = 60

abbrev pub greater_than : ℕ
greater_than = 62

-- the letters of `\b` and `\B`
abbrev pub letter_b : ℕ
letter_b = 98

abbrev pub capital_b : ℕ
capital_b = 66

-- the letters of escapes that have the code of a character
abbrev pub letter_c : ℕ
letter_c = 99

abbrev pub letter_x : ℕ
letter_x = 120

abbrev pub letter_u : ℕ
letter_u = 117

-- the characters of a named set: digits, word characters, white space with the ends of lines, all
-- characters, those of ASCII, those of a category, or all others
abbrev pub set_items : Set → List Item
set_items set.Digits = Range 48 57 ∷ []
set_items set.NoDigits = Range 0 47 ∷ Range 58 1114111 ∷ []
set_items set.Words = Range 48 57 ∷ Range 65 90 ∷ Range 95 95 ∷ Range 97 122 ∷ []
set_items set.NoWords = Range 0 47 ∷ Range 58 64 ∷ Range 91 94 ∷ Range 96 96 ∷ Range 123 1114111 ∷ []
set_items set.Spaces =
    Range 9 13 ∷ Range 32 32 ∷ Range 160 160 ∷ Range 5760 5760 ∷ Range 8192 8202 ∷ Range 8232 8233 ∷ Range 8239 8239 ∷ Range 8287 8287
    ∷ Range 12288 12288 ∷ Range 65279 65279 ∷ []
set_items set.NoSpaces =
    Range 0 8 ∷ Range 14 31 ∷ Range 33 159 ∷ Range 161 5759 ∷ Range 5761 8191 ∷ Range 8203 8231 ∷ Range 8234 8238 ∷ Range 8240 8286
    ∷ Range 8288 12287 ∷ Range 12289 65278 ∷ Range 65280 1114111 ∷ []
set_items set.All = Range 0 1114111 ∷ []
set_items set.Nothing = []
set_items set.Ascii = Range 0 127 ∷ []
set_items set.NoAscii = Range 128 1114111 ∷ []
set_items (set.In k) = In k ∷ []
set_items (set.NotIn k) = NotIn k ∷ []

-- all other characters
abbrev pub others : Set → Set
others set.Digits = set.NoDigits
others set.NoDigits = set.Digits
others set.Words = set.NoWords
others set.NoWords = set.Words
others set.Spaces = set.NoSpaces
others set.NoSpaces = set.Spaces
others set.All = set.Nothing
others set.Nothing = set.All
others set.Ascii = set.NoAscii
others set.NoAscii = set.Ascii
others (set.In k) = set.NotIn k
others (set.NotIn k) = set.In k

-- the characters of a letter of a pattern
abbrev pub letter_items : Letter → List Item
letter_items (Plain c) = Range c c ∷ []
letter_items (Literal c) = Range c c ∷ []
letter_items (Named s) = set_items s

-- ASCII punctuation
abbrev pub is_sign : ℕ → Bool
is_sign c =
    (nat_le 33 c && nat_le c 47) || ((nat_le 58 c && nat_le c 64) || ((nat_le 91 c && nat_le c 96) || (nat_le 123 c && nat_le c 126)))

-- the meaning of a character after a backslash: \d \D \w \W \s \S, \t
--  \v \f \r, and each sign as itself
abbrev pub named_letter : ℕ → Option Letter
named_letter c =
    cond (c == 100) (Some (Named set.Digits)) (cond (c == 68) (Some (Named set.NoDigits)) (cond (c == 119) (Some (Named set.Words))
    (cond (c == 87) (Some (Named set.NoWords)) (cond (c == 115) (Some (Named set.Spaces)) (cond (c == 83) (Some (Named set.NoSpaces))
    (cond (c == letter_t) (Some (Literal horizontal_tab)) (cond (c == letter_n) (Some (Literal line_feed))
    (cond (c == 118) (Some (Literal 11)) (cond (c == 102) (Some (Literal 12)) (cond (c == letter_r) (Some (Literal carriage_return))
    (cond (is_sign c) (Some (Literal c)) None)))))))))))

-- the value of a hexadecimal digit
abbrev pub hex_digit : ℕ → Option ℕ
hex_digit c =
    cond (nat_le 48 c && nat_le c 57) (Some (c - 48)) (cond (nat_le 97 c && nat_le c 102) (Some (c - 87))
    (cond (nat_le 65 c && nat_le c 70) (Some (c - 55)) None))

-- the value of two hexadecimal digits
abbrev pub byte_of : ℕ → ℕ → Option ℕ
byte_of a b = option_and_then (λ x. option_map (λ y. 16 * x + y) (hex_digit b)) (hex_digit a)

-- the value of four hexadecimal digits
abbrev pub code_of : ℕ → ℕ → ℕ → ℕ → Option ℕ
code_of a b c d = option_and_then (λ x. option_map (λ y. 256 * x + y) (byte_of c d)) (byte_of a b)

-- the value of any number of hexadecimal digits, after others with the value n
abbrev pub value_of : ℕ → List ℕ → Option ℕ
value_of n [] = Some n
value_of n (c ∷ cs) = option_and_then (λ x. value_of (16 * n + x) cs) (hex_digit c)

-- a high surrogate, a low surrogate, or either, which is no character
abbrev pub is_high : ℕ → Bool
is_high n = nat_le 55296 n && nat_le n 56319

abbrev pub is_low : ℕ → Bool
is_low n = nat_le 56320 n && nat_le n 57343

abbrev pub is_surrogate : ℕ → Bool
is_surrogate n = nat_le 55296 n && nat_le n 57343

-- the character with this code
abbrev pub scalar : ℕ → Option ℕ
scalar n = cond (is_surrogate n || not (nat_le n 1114111)) None (Some n)

-- the character of a pair of surrogates
abbrev pub pair_of : ℕ → ℕ → Option ℕ
pair_of m n = cond (is_high m && is_low n) (Some (1024 * (m - 55296) + (n - 56320) + 65536)) None

-- the control character of an ASCII letter: the last five bits of the letter
abbrev pub control_of : ℕ → Option ℕ
control_of c = cond (nat_le 65 c && nat_le c 90) (Some (c - 64)) (cond (nat_le 97 c && nat_le c 122) (Some (c - 96)) None)

-- UnicodePropertyValueExpression: a value of General_Category, alone or after the property's name,
-- or the name of a property that is true or false
pub data PropertyText : List ℕ → Set → Type 0 where
  value : (cs : List ℕ) (k : Category) → value_named cs ≡ Some k → PropertyText cs (set.In k)
  general_category : (cs : List ℕ) (k : Category) → value_named cs ≡ Some k
      → PropertyText (codes "General_Category=" ++ cs) (set.In k)
  gc : (cs : List ℕ) (k : Category) → value_named cs ≡ Some k → PropertyText (codes "gc=" ++ cs) (set.In k)
  any : PropertyText (codes "Any") set.All
  ascii : PropertyText (codes "ASCII") set.Ascii
  assigned : (unassigned : Category) → value_named (codes "Cn") ≡ Some unassigned
      → PropertyText (codes "Assigned") (set.NotIn unassigned)

-- the text is this letter: a plain character, or an escape
pub data LetterText : List ℕ → Letter → Type 0 where
  plain : (c : ℕ) → (c == reverse_solidus) ≡ false → LetterText (c ∷ []) (Plain c)
  named : (c : ℕ) (x : Letter) → named_letter c ≡ Some x → LetterText (reverse_solidus ∷ c ∷ []) x
  null : LetterText (reverse_solidus ∷ digit_zero ∷ []) (Literal 0)
  control : (c n : ℕ) → control_of c ≡ Some n → LetterText (reverse_solidus ∷ letter_c ∷ c ∷ []) (Literal n)
  byte : (a b n : ℕ) → byte_of a b ≡ Some n → LetterText (reverse_solidus ∷ letter_x ∷ a ∷ b ∷ []) (Literal n)
  unit : (a b c d m n : ℕ) → code_of a b c d ≡ Some m → scalar m ≡ Some n
      → LetterText (reverse_solidus ∷ letter_u ∷ a ∷ b ∷ c ∷ d ∷ []) (Literal n)
  pair : (a b c d e f g h k m n : ℕ) → code_of a b c d ≡ Some k → code_of e f g h ≡ Some m → pair_of k m ≡ Some n
      → LetterText (reverse_solidus ∷ letter_u ∷ a ∷ b ∷ c ∷ d ∷ reverse_solidus ∷ letter_u ∷ e ∷ f ∷ g ∷ h ∷ []) (Literal n)
  braced : (d : ℕ) (ds : List ℕ) (m n : ℕ) → value_of 0 (d ∷ ds) ≡ Some m → scalar m ≡ Some n
      → LetterText (reverse_solidus ∷ letter_u ∷ left_brace ∷ d ∷ (ds ++ right_brace ∷ [])) (Literal n)
  property : (cs : List ℕ) (x : Set) → PropertyText cs x
      → LetterText (reverse_solidus ∷ letter_p ∷ left_brace ∷ (cs ++ right_brace ∷ [])) (Named x)
  no_property : (cs : List ℕ) (x : Set) → PropertyText cs x
      → LetterText (reverse_solidus ∷ capital_p ∷ left_brace ∷ (cs ++ right_brace ∷ [])) (Named (others x))

abbrev pub begins_with_digit : List ℕ → Bool
begins_with_digit [] = false
begins_with_digit (c ∷ cs) = is_digit c

-- the text is `\0`
abbrev pub is_null : List ℕ → Bool
is_null (c ∷ d ∷ []) = (c == reverse_solidus) && (d == digit_zero)
is_null cs = false

-- the second text may follow the first: no digit follows `\0`
abbrev pub follows : List ℕ → List ℕ → Bool
follows cs ds = not (is_null cs && begins_with_digit ds)

-- ---- classes

-- the letter ends a class
abbrev pub ends_class : Letter → Bool
ends_class (Plain c) = c == right_bracket
ends_class (Literal c) = false
ends_class (Named s) = false

-- the letter is the `-` of a range
abbrev pub is_dash : Letter → Bool
is_dash (Plain c) = c == hyphen
is_dash (Literal c) = false
is_dash (Named s) = false

-- the letters of a class, in sequence
pub data LettersText : List ℕ → List Letter → Type 0 where
  none : LettersText [] []
  more : {cs ds : List ℕ} {x : Letter} {xs : List Letter} → LetterText cs x → ends_class x ≡ false → follows cs ds ≡ true
      → LettersText ds xs → LettersText (cs ++ ds) (x ∷ xs)

-- the character of a letter, unless it is a set
abbrev pub character_of : Letter → Option ℕ
character_of (Plain c) = Some c
character_of (Literal c) = Some c
character_of (Named s) = None

-- the range from one character to another, if it does not end before it begins
abbrev pub ordered : ℕ → ℕ → Option (List Item)
ordered c d = cond (nat_le c d) (Some (Range c d ∷ [])) None

-- the range between two characters, or this union where one of them is none
abbrev pub range_or : List Item → Option ℕ → Option ℕ → Option (List Item)
range_or union None d = Some union
range_or union (Some c) None = Some union
range_or union (Some c) (Some d) = ordered c d

-- a range of characters; with a set, the union of both letters and `-` (ECMA-262, B.1.2.8.1)
abbrev pub range_of : Letter → Letter → Option (List Item)
range_of x y = range_or (letter_items x ++ Range hyphen hyphen ∷ letter_items y) (character_of x) (character_of y)

-- The items of a class. A `-` between two letters makes a range of them. Each other letter stands
-- for itself.
abbrev pub class_items : List Letter → Option (List Item)
class_items [] = Some []
class_items (x ∷ []) = Some (letter_items x)
class_items (x ∷ y ∷ []) = Some (letter_items x ++ letter_items y)
class_items (x ∷ y ∷ z ∷ xs) =
    cond (is_dash y) (option_and_then (λ is. option_map (λ js. is ++ js) (class_items xs)) (range_of x z))
    (option_map (λ is. letter_items x ++ is) (class_items (y ∷ z ∷ xs)))

-- ---- marks

-- a mark: what begins a look-ahead, or a token
pub data Mark : Type 0 where
  look : (negated : Bool) → Mark
  token : Token → Mark

-- every character but a line feed, a carriage return, and the ends of lines and paragraphs of Unicode
abbrev pub dot : Token
dot = characters true (Range line_feed line_feed ∷ Range carriage_return carriage_return ∷ Range 8232 8233 ∷ [])

-- a character that stands for itself outside of classes
abbrev pub is_normal : ℕ → Bool
is_normal c = not (is_one_of (circumflex ∷ dollar_sign ∷ left_parenthesis ∷ right_parenthesis ∷ vertical_bar ∷ full_stop
    ∷ reverse_solidus ∷ left_bracket ∷ asterisk ∷ plus_sign ∷ question_mark ∷ left_brace ∷ right_bracket ∷ right_brace ∷ []) c)

-- The text is this mark. The lazy form of a quantifier is the same token as the greedy one.
pub data Spells : List ℕ → Mark → Type 0 where
  begins : Spells (circumflex ∷ []) (token (asserted Start))
  finishes : Spells (dollar_sign ∷ []) (token (asserted End))
  boundary : Spells (reverse_solidus ∷ letter_b ∷ []) (token (asserted WordBoundary))
  no_boundary : Spells (reverse_solidus ∷ capital_b ∷ []) (token (asserted NotWordBoundary))
  opens : Spells (left_parenthesis ∷ []) (token opened)
  opens_silently : Spells (left_parenthesis ∷ question_mark ∷ colon ∷ []) (token opened)
  looks : Spells (left_parenthesis ∷ question_mark ∷ equals_sign ∷ []) (look false)
  looks_not : Spells (left_parenthesis ∷ question_mark ∷ exclamation_mark ∷ []) (look true)
  closes : Spells (right_parenthesis ∷ []) (token closed)
  parts : Spells (vertical_bar ∷ []) (token bar)
  any : Spells (full_stop ∷ []) (token dot)
  normal : (c : ℕ) → is_normal c ≡ true → Spells (c ∷ []) (token (one c))
  escape : {cs : List ℕ} {x : Letter} → LetterText (reverse_solidus ∷ cs) x
      → Spells (reverse_solidus ∷ cs) (token (characters false (letter_items x)))
  bracket : {hs cs : List ℕ} {negated : Bool} {xs : List Letter} {is : List Item}
      → CaretText hs negated → LettersText cs xs → (negated ≡ false → begins_with_caret cs ≡ false) → class_items xs ≡ Some is
      → Spells (left_bracket ∷ (hs ++ (cs ++ right_bracket ∷ []))) (token (characters negated is))
  greedy : {cs : List ℕ} {least : ℕ} {most : Option ℕ} → regexp.Spells cs (quantifier least most)
      → Spells cs (token (quantifier least most))
  lazy : {cs : List ℕ} {least : ℕ} {most : Option ℕ} → regexp.Spells cs (quantifier least most)
      → Spells (cs ++ question_mark ∷ []) (token (quantifier least most))

-- a `?` after the mark would belong to it
abbrev pub takes_question : Mark → Bool
takes_question (token opened) = true
takes_question (token (quantifier least most)) = true
takes_question m = false

abbrev pub begins_with_question : List ℕ → Bool
begins_with_question [] = false
begins_with_question (c ∷ cs) = c == question_mark

-- the text may follow the mark: after `(` and after a quantifier no further `?`
abbrev pub fits : Mark → List ℕ → Bool
fits (look negated) cs = true
fits (token t) cs = not (takes_question (token t) && begins_with_question cs)

-- a character that may begin a name: a letter of ASCII, `$` or `_`
abbrev pub begins_name : ℕ → Bool
begins_name c = ((nat_le 65 c && nat_le c 90) || (nat_le 97 c && nat_le c 122)) || ((c == dollar_sign) || (c == 95))

-- and one that may follow in it
abbrev pub is_name_part : ℕ → Bool
is_name_part c = begins_name c || is_digit c

abbrev pub are_name_parts : List ℕ → Bool
are_name_parts [] = true
are_name_parts (c ∷ cs) = is_name_part c && are_name_parts cs

-- the name of a group: a RegExpIdentifierName of ECMA-262 with characters of ASCII, without escapes
abbrev pub is_group_name : List ℕ → Bool
is_group_name [] = false
is_group_name (c ∷ cs) = begins_name c && are_name_parts cs

-- The text consists of these marks, and its groups have these names. `(?<name>` begins a group as
-- `(` does.
pub data Spelled : List ℕ → List Mark → List (List ℕ) → Type 0 where
  none : Spelled [] [] []
  more : {cs ds : List ℕ} {m : Mark} {ms : List Mark} {names : List (List ℕ)} → Spells cs m → fits m ds ≡ true → follows cs ds ≡ true
      → Spelled ds ms names → Spelled (cs ++ ds) (m ∷ ms) names
  named : {name ds : List ℕ} {ms : List Mark} {names : List (List ℕ)} → is_group_name name ≡ true → Spelled ds ms names
      → Spelled (left_parenthesis ∷ question_mark ∷ less_than ∷ (name ++ greater_than ∷ ds)) (token opened ∷ ms) (name ∷ names)

-- both names are the same
abbrev pub is_same : List ℕ → List ℕ → Bool
is_same [] [] = true
is_same [] (d ∷ ds) = false
is_same (c ∷ cs) [] = false
is_same (c ∷ cs) (d ∷ ds) = (c == d) && is_same cs ds

-- the name is one of these
abbrev pub is_among : List (List ℕ) → List ℕ → Bool
is_among [] name = false
is_among (n ∷ names) name = is_same n name || is_among names name

-- no two of the names are the same
abbrev pub are_distinct : List (List ℕ) → Bool
are_distinct [] = true
are_distinct (n ∷ names) = not (is_among names n) && are_distinct names

-- ---- patterns

-- the branches of a look-ahead
pub record Disjunction : Type 0 where
  pub before : List Branch
  pub last : Branch

-- a look-ahead, `(?=..)` or, if it is negated, `(?!..)`
pub record Look : Type 0 where
  pub negated : Bool
  pub content : Disjunction

-- An outermost branch. If it has look-aheads, a `^` is before them.
pub record Case : Type 0 where
  pub looks : List Look
  pub branch : Branch

-- the outermost branches
pub record Pattern : Type 0 where
  pub before : List Case
  pub last : Case

abbrev pub branch_marks : Branch → List Mark
branch_marks b = map token (branch_tokens b)

-- branches, each with the bar after it
abbrev pub barred_marks : List Branch → List Mark
barred_marks [] = []
barred_marks (b ∷ bs) = branch_marks b ++ token bar ∷ barred_marks bs

abbrev pub disjunction_marks : Disjunction → List Mark
disjunction_marks p = barred_marks p.before ++ branch_marks p.last

abbrev pub looks_marks : List Look → List Mark
looks_marks [] = []
looks_marks (k ∷ ks) = look k.negated ∷ (disjunction_marks k.content ++ token closed ∷ looks_marks ks)

-- look-aheads, with the `^` before them
abbrev pub guard_marks : List Look → List Mark
guard_marks [] = []
guard_marks (k ∷ ks) = token (asserted Start) ∷ looks_marks (k ∷ ks)

abbrev pub case_marks : Case → List Mark
case_marks c = guard_marks c.looks ++ branch_marks c.branch

-- outermost branches, each with the bar after it
abbrev pub cases_marks : List Case → List Mark
cases_marks [] = []
cases_marks (c ∷ cs) = case_marks c ++ token bar ∷ cases_marks cs

abbrev pub pattern_marks : Pattern → List Mark
pattern_marks p = cases_marks p.before ++ case_marks p.last

-- The text is in the grammar, and is this pattern. No two groups have the same name, as in ECMA-262
-- of 2024 (22.2.1.1).
pub record IsText (cs : List ℕ) (p : Pattern) : Type 0 where
  pub names : List (List ℕ)
  pub spelled : Spelled cs (pattern_marks p) names
  pub distinct : are_distinct names ≡ true

-- the branch matches a part of the text, with `first` only one at the beginning
pub record Finds (first : Bool) (b : Branch) (cs : List ℕ) : Type 0 where
  pub before : List ℕ
  pub part : List ℕ
  pub after : List ℕ
  pub split : cs ≡ before ++ (part ++ after)
  pub matched : MatchesIn (branch_form b) (last_of None before) part (next_of after None)
  pub begins : first ≡ true → before ≡ []

-- it is so unless it is to be otherwise
abbrev pub Unless : Bool → Type 0 → Type 0
Unless false P = P
Unless true P = P → ⊥

-- one of the branches does so
abbrev pub FindsOne : Bool → List Branch → List ℕ → Type 0
FindsOne first [] cs = ⊥
FindsOne first (b ∷ bs) cs = Finds first b cs ⊎ FindsOne first bs cs

-- the look-ahead holds at the beginning of the text (ECMA-262, 22.2.2.4): one of its branches
-- matches there or, if it is negated, none does
abbrev pub Holds : Look → List ℕ → Type 0
Holds k cs = Unless k.negated (FindsOne true (k.content.before ++ k.content.last ∷ []) cs)

abbrev pub AllHold : List Look → List ℕ → Type 0
AllHold [] cs = Unit {0}
AllHold (k ∷ ks) cs = Holds k cs × AllHold ks cs

abbrev pub has_looks : List Look → Bool
has_looks [] = false
has_looks (k ∷ ks) = true

-- the look-aheads hold, and the branch matches a part of the text, after look-aheads at the
-- beginning
abbrev pub FindsCase : Case → List ℕ → Type 0
FindsCase c cs = AllHold c.looks cs × Finds (has_looks c.looks) c.branch cs

-- one of the branches does so
abbrev pub FindsOneCase : List Case → List ℕ → Type 0
FindsOneCase [] cs = ⊥
FindsOneCase (c ∷ rest) cs = FindsCase c cs ⊎ FindsOneCase rest cs

-- the pattern matches a part of the text
abbrev pub IsFound : Pattern → List ℕ → Type 0
IsFound p cs = FindsOneCase (p.before ++ p.last ∷ []) cs

-- no branch is too large, those of look-aheads neither
abbrev pub AreSmall : List Branch → Type 0
AreSmall [] = Unit {0}
AreSmall (b ∷ bs) = (branch_size b ≤ size_limit) × AreSmall bs

abbrev pub AreSmallLooks : List Look → Type 0
AreSmallLooks [] = Unit {0}
AreSmallLooks (k ∷ ks) = AreSmall (k.content.before ++ k.content.last ∷ []) × AreSmallLooks ks

abbrev pub AreSmallCases : List Case → Type 0
AreSmallCases [] = Unit {0}
AreSmallCases (c ∷ cs) = AreSmallLooks c.looks × (branch_size c.branch ≤ size_limit) × AreSmallCases cs

abbrev pub IsSmall : Pattern → Type 0
IsSmall p = AreSmallCases (p.before ++ p.last ∷ [])
