-- The grammar of RFC 9485: which text is which regular expression.
use Rattle.std.specs.Prelude.{◌≡◌, ℕ, ◌+◌, ◌-◌, ◌*◌, Bool, true, false, not, ◌&&◌, ◌||◌, ◌==◌, nat_le, cond, List, [], ◌∷◌, ◌++◌}
use Rattle.std.specs.Prelude.{Option, Some, None}
use Rattle.text_iregexp.specs.Characters.{left_parenthesis, right_parenthesis, vertical_bar, asterisk, plus_sign, question_mark, left_brace}
use Rattle.text_iregexp.specs.Characters.{comma, right_brace, digit_zero, digit_nine, full_stop, left_bracket, circumflex, hyphen}
use Rattle.text_iregexp.specs.Characters.{right_bracket, reverse_solidus, letter_n, letter_r, letter_t, letter_p, capital_p, line_feed}
use Rattle.text_iregexp.specs.Characters.{carriage_return, horizontal_tab}
use Rattle.text_categories.specs.Categories.{named}
use Rattle.text_categories.specs.declared.Category.{Category}
use Rattle.text_regexp.specs.declared.assertion.Assertion.{Assertion}
use Rattle.text_regexp.specs.declared.class.Item.{Item}
use Rattle.text_regexp.specs.declared.class.Item.TheVariants.{Range, In, NotIn}
use Rattle.text_regexp.specs.Forms.{Form, empty, class, assertion, concat, alternation, repetition}

-- ---- tokens

-- a token: one character of a class, a parenthesis, a bar, a quantifier with its counts, or an
-- assertion, which only the patterns of JSON Schema have
pub data Token : Type 0 where
  characters : (negated : Bool) (items : List Item) → Token
  opened : Token
  closed : Token
  bar : Token
  quantifier : (least : ℕ) (most : Option ℕ) → Token
  asserted : (kind : Assertion) → Token

-- this character only
abbrev pub one : ℕ → Token
one c = characters false (Range c c ∷ [])

-- every character but a line feed and a carriage return
abbrev pub any : Token
any = characters true (Range line_feed line_feed ∷ Range carriage_return carriage_return ∷ [])

-- whether a character is in the list
abbrev pub is_one_of : List ℕ → ℕ → Bool
is_one_of [] c = false
is_one_of (d ∷ ds) c = (c == d) || is_one_of ds c

-- NormalChar: every character but ( ) * + . ? [ \ ] { | }
abbrev pub is_normal : ℕ → Bool
is_normal c = not (is_one_of (left_parenthesis ∷ right_parenthesis ∷ asterisk ∷ plus_sign ∷ full_stop ∷ question_mark ∷ left_bracket
    ∷ reverse_solidus ∷ right_bracket ∷ left_brace ∷ vertical_bar ∷ right_brace ∷ []) c)

-- CCchar without a backslash: every character but - [ \ ]
abbrev pub is_plain : ℕ → Bool
is_plain c = not (is_one_of (hyphen ∷ left_bracket ∷ reverse_solidus ∷ right_bracket ∷ []) c)

-- SingleCharEsc: the character that this one stands for after a backslash
abbrev pub escape_of : ℕ → Option ℕ
escape_of c =
    cond (c == letter_n) (Some line_feed) (cond (c == letter_r) (Some carriage_return) (cond (c == letter_t) (Some horizontal_tab)
    (cond (is_one_of (left_parenthesis ∷ right_parenthesis ∷ asterisk ∷ plus_sign ∷ hyphen ∷ full_stop ∷ question_mark ∷ left_bracket
    ∷ reverse_solidus ∷ right_bracket ∷ circumflex ∷ left_brace ∷ vertical_bar ∷ right_brace ∷ []) c) (Some c) None)))

-- one of the ten digits
abbrev pub is_digit : ℕ → Bool
is_digit c = nat_le digit_zero c && nat_le c digit_nine

-- only digits
abbrev pub are_digits : List ℕ → Bool
are_digits [] = true
are_digits (c ∷ cs) = is_digit c && are_digits cs

-- the number with these digits, after those of n
abbrev pub number_on : ℕ → List ℕ → ℕ
number_on n [] = n
number_on n (c ∷ cs) = number_on (10 * n + (c - digit_zero)) cs

-- QuantExact: the number with these digits, of which the first is given
abbrev pub count : ℕ → List ℕ → ℕ
count c cs = number_on (c - digit_zero) cs

-- CCchar: a character of a class, plain or escaped
pub data MemberText : List ℕ → ℕ → Type 0 where
  plain : (c : ℕ) → is_plain c ≡ true → MemberText (c ∷ []) c
  escaped : (letter c : ℕ) → escape_of letter ≡ Some c → MemberText (reverse_solidus ∷ letter ∷ []) c

-- IsCategory: the name of a group, or of one of its categories
pub data NameText : List ℕ → Category → Type 0 where
  group : (letter : ℕ) (k : Category) → named letter None ≡ Some k → NameText (letter ∷ []) k
  category : (letter own : ℕ) (k : Category) → named letter (Some own) ≡ Some k → NameText (letter ∷ own ∷ []) k

-- charClassEsc: the characters of a category, or all others
pub data CategoryText : List ℕ → Item → Type 0 where
  of : {cs : List ℕ} {k : Category} → NameText cs k
      → CategoryText (reverse_solidus ∷ letter_p ∷ left_brace ∷ (cs ++ right_brace ∷ [])) (In k)
  others : {cs : List ℕ} {k : Category} → NameText cs k
      → CategoryText (reverse_solidus ∷ capital_p ∷ left_brace ∷ (cs ++ right_brace ∷ [])) (NotIn k)

-- CCE1: a character, a range, which does not end before it begins, or a category
pub data ItemText : List ℕ → Item → Type 0 where
  single : {cs : List ℕ} {c : ℕ} → MemberText cs c → ItemText cs (Range c c)
  range : {cs ds : List ℕ} {c d : ℕ} → MemberText cs c → MemberText ds d → nat_le c d ≡ true → ItemText (cs ++ hyphen ∷ ds) (Range c d)
  category : {cs : List ℕ} {i : Item} → CategoryText cs i → ItemText cs i

-- characters and ranges, in sequence
pub data ItemsText : List ℕ → List Item → Type 0 where
  none : ItemsText [] []
  more : {cs ds : List ℕ} {r : Item} {rs : List Item} → ItemText cs r → ItemsText ds rs → ItemsText (cs ++ ds) (r ∷ rs)

-- the first item of a class, which may be a `-`
pub data FirstText : List ℕ → Item → Type 0 where
  dash : FirstText (hyphen ∷ []) (Range hyphen hyphen)
  item : {cs : List ℕ} {r : Item} → ItemText cs r → FirstText cs r

-- the last item of a class, which may be a `-`
pub data LastText : List ℕ → List Item → Type 0 where
  none : LastText [] []
  dash : LastText (hyphen ∷ []) (Range hyphen hyphen ∷ [])

-- the `^` before the first item, which negates
pub data CaretText : List ℕ → Bool → Type 0 where
  none : CaretText [] false
  caret : CaretText (circumflex ∷ []) true

-- the text begins with `^`
abbrev pub begins_with_caret : List ℕ → Bool
begins_with_caret [] = false
begins_with_caret (c ∷ cs) = c == circumflex

-- The text is this token. A `^` after an opening bracket negates. Of two counts the first is at
-- most the second.
pub data Spells : List ℕ → Token → Type 0 where
  opens : Spells (left_parenthesis ∷ []) opened
  closes : Spells (right_parenthesis ∷ []) closed
  parts : Spells (vertical_bar ∷ []) bar
  normal : (c : ℕ) → is_normal c ≡ true → Spells (c ∷ []) (one c)
  dot : Spells (full_stop ∷ []) any
  escaped : (letter c : ℕ) → escape_of letter ≡ Some c → Spells (reverse_solidus ∷ letter ∷ []) (one c)
  category : {cs : List ℕ} {i : Item} → CategoryText cs i → Spells cs (characters false (i ∷ []))
  bracket : {hs bs cs ds : List ℕ} {negated : Bool} {r : Item} {rs ls : List Item}
      → CaretText hs negated → FirstText bs r → (negated ≡ false → begins_with_caret bs ≡ false) → ItemsText cs rs → LastText ds ls
      → Spells (left_bracket ∷ (hs ++ (bs ++ (cs ++ (ds ++ right_bracket ∷ []))))) (characters negated (r ∷ (rs ++ ls)))
  star : Spells (asterisk ∷ []) (quantifier 0 None)
  plus : Spells (plus_sign ∷ []) (quantifier 1 None)
  question : Spells (question_mark ∷ []) (quantifier 0 (Some 1))
  exactly : (c : ℕ) (cs : List ℕ) → is_digit c ≡ true → are_digits cs ≡ true
      → Spells (left_brace ∷ c ∷ (cs ++ right_brace ∷ [])) (quantifier (count c cs) (Some (count c cs)))
  at_least : (c : ℕ) (cs : List ℕ) → is_digit c ≡ true → are_digits cs ≡ true
      → Spells (left_brace ∷ c ∷ (cs ++ comma ∷ right_brace ∷ [])) (quantifier (count c cs) None)
  between : (c : ℕ) (cs : List ℕ) (d : ℕ) (ds : List ℕ)
      → is_digit c ≡ true → are_digits cs ≡ true → is_digit d ≡ true → are_digits ds ≡ true → nat_le (count c cs) (count d ds) ≡ true
      → Spells (left_brace ∷ c ∷ (cs ++ comma ∷ d ∷ (ds ++ right_brace ∷ []))) (quantifier (count c cs) (Some (count d ds)))

-- the text consists of these tokens
pub data Spelled : List ℕ → List Token → Type 0 where
  none : Spelled [] []
  more : {cs ds : List ℕ} {t : Token} {ts : List Token} → Spells cs t → Spelled ds ts → Spelled (cs ++ ds) (t ∷ ts)

-- ---- expressions

-- i-regexp: branches with bars between them; branch: pieces; piece: an atom, which may have a
-- quantifier, or in a pattern of JSON Schema an assertion (ECMA-262, Term)
mutual
  pub data Regexp : Type 0 where
    last : Branch → Regexp
    branches : Branch → Regexp → Regexp

  pub data Branch : Type 0 where
    nothing : Branch
    pieces : Piece → Branch → Branch

  pub data Piece : Type 0 where
    once : Atom → Piece
    times : Atom → (least : ℕ) (most : Option ℕ) → Piece
    asserts : (kind : Assertion) → Piece

  pub data Atom : Type 0 where
    character : (negated : Bool) (items : List Item) → Atom
    group : Regexp → Atom

-- the tokens of an expression, in sequence
abbrev mutual
  pub regexp_tokens : Regexp → List Token
  regexp_tokens (last b) = branch_tokens b
  regexp_tokens (branches b r) = branch_tokens b ++ bar ∷ regexp_tokens r

  pub branch_tokens : Branch → List Token
  branch_tokens nothing = []
  branch_tokens (pieces p b) = piece_tokens p ++ branch_tokens b

  pub piece_tokens : Piece → List Token
  piece_tokens (once a) = atom_tokens a
  piece_tokens (times a least most) = atom_tokens a ++ quantifier least most ∷ []
  piece_tokens (asserts kind) = asserted kind ∷ []

  pub atom_tokens : Atom → List Token
  atom_tokens (character negated items) = characters negated items ∷ []
  atom_tokens (group r) = opened ∷ (regexp_tokens r ++ closed ∷ [])

-- the meaning of an expression as a `Form`
abbrev mutual
  pub regexp_form : Regexp → Form
  regexp_form (last b) = branch_form b
  regexp_form (branches b r) = alternation (branch_form b) (regexp_form r)

  pub branch_form : Branch → Form
  branch_form nothing = empty
  branch_form (pieces p b) = concat (piece_form p) (branch_form b)

  pub piece_form : Piece → Form
  piece_form (once a) = atom_form a
  piece_form (times a least most) = repetition (atom_form a) least most
  piece_form (asserts kind) = assertion kind

  pub atom_form : Atom → Form
  atom_form (character negated items) = class negated items
  atom_form (group r) = regexp_form r

-- the text is in the grammar, and is this regular expression
pub record IsText (cs : List ℕ) (r : Regexp) : Type 0 where
  pub spelled : Spelled cs (regexp_tokens r)
