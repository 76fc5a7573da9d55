-- The first part of a text, and the text after it; for private contracts.
use Rattle.std.specs.Prelude.{◌≡◌, ℕ, zero, suc, ◌+◌, ◌-◌, ◌*◌, Bool, true, false, ◌&&◌, ◌||◌, ◌==◌, nat_le, cond, List, [], ◌∷◌, ◌++◌}
use Rattle.std.specs.Prelude.{length, Option, Some, None, option_map, option_and_then, Result, Ok, Err}
use Rattle.std.specs.Borrow.{Bor}
use Rattle.text_iregexp.specs.Characters.{left_parenthesis, right_parenthesis, vertical_bar, asterisk, plus_sign, question_mark, left_brace}
use Rattle.text_iregexp.specs.Characters.{comma, right_brace, digit_zero, full_stop, left_bracket, circumflex, hyphen, right_bracket}
use Rattle.text_categories.specs.Categories.{named}
use Rattle.text_categories.specs.declared.Category.{Category}
use Rattle.text_iregexp.specs.Characters.{reverse_solidus, letter_p, capital_p}
use Rattle.text_regexp.specs.declared.class.Item.{Item}
use Rattle.text_regexp.specs.declared.class.Item.TheVariants.{Range, In, NotIn}
use Rattle.text_iregexp.specs.declared.error.IRegexpErrorKind.{IRegexpErrorKind}
use Rattle.text_iregexp.specs.declared.error.IRegexpErrorKind.TheVariants as kind
use Rattle.text_iregexp.specs.declared.token.Token.TheVariants as is
use Rattle.text_iregexp.specs.declared.token.Token.{Token as CodeToken}
use Rattle.text_iregexp.specs.Grammar.{Token, characters, opened, closed, bar, quantifier, asserted, one, any, is_normal, is_plain}
use Rattle.text_iregexp.specs.Grammar.{is_digit, escape_of}

-- the result of parsing the front of the text: o, unless another error occurs; too large only with
-- `Large`
abbrev pub Fronts : {U V : Type 0} → Type 0 → (U → V) → Option (V × List ℕ) → Result (U × Bor (List ℕ)) IRegexpErrorKind → Type 0
Fronts Large view o (Ok r) = o ≡ Some (view r.0, r.1.now)
Fronts Large view o (Err kind.Invalid) = o ≡ None
Fronts Large view o (Err kind.TooDeep) = ⊥
Fronts Large view o (Err kind.TooLarge) = Large
Fronts Large view o (Err kind.OutOfMemory) = Unit {0}

-- the view of the code's token
abbrev pub token_of : CodeToken → Token
token_of (is.Characters k) = characters k.negated k.items.items
token_of is.Open = opened
token_of is.Close = closed
token_of is.Bar = bar
token_of (is.Quantifier least most) = quantifier least most
token_of (is.Assertion kind) = asserted kind

-- the character of an escape, after its backslash
abbrev pub escape_front : List ℕ → Option (ℕ × List ℕ)
escape_front [] = None
escape_front (l ∷ cs) = option_map (λ c. (c, cs)) (escape_of l)

-- CCchar
abbrev pub member_front : List ℕ → Option (ℕ × List ℕ)
member_front [] = None
member_front (c ∷ cs) = cond (c == reverse_solidus) (escape_front cs) (cond (is_plain c) (Some (c, cs)) None)

-- the range from c to the character that was read, if it does not end before it begins
abbrev pub up_to : ℕ → ℕ × List ℕ → Option (Item × List ℕ)
up_to c p = cond (nat_le c p.0) (Some (Range c p.0, p.1)) None

-- what follows the `-` after c: the end of the class, where `-` is a character, or the last
-- character of a range
abbrev pub range_end : ℕ → List ℕ → List ℕ → Option (Item × List ℕ)
range_end c ys [] = None
range_end c ys (e ∷ zs) = cond (e == right_bracket) (Some (Range c c, ys)) (option_and_then (up_to c) (member_front (e ∷ zs)))

-- what follows the character c of a class
abbrev pub range_front : ℕ → List ℕ → Option (Item × List ℕ)
range_front c [] = Some (Range c c, [])
range_front c (d ∷ ys) = cond (d == hyphen) (range_end c (d ∷ ys) ys) (Some (Range c c, d ∷ ys))

-- a character, or a range
abbrev pub characters_front : List ℕ → Option (Item × List ℕ)
characters_front xs = option_and_then (λ p. range_front p.0 p.1) (member_front xs)

-- the category of a name, and the text after it
abbrev pub named_front : ℕ → Option ℕ → List ℕ → Option (Category × List ℕ)
named_front g l cs = option_map (λ k. (k, cs)) (named g l)

-- the brace after a name of two letters
abbrev pub second_front : ℕ → ℕ → List ℕ → Option (Category × List ℕ)
second_front g l [] = None
second_front g l (c ∷ cs) = cond (c == right_brace) (named_front g (Some l) cs) None

-- IsCategory in its braces
abbrev pub name_front : List ℕ → Option (Category × List ℕ)
name_front [] = None
name_front (b ∷ []) = None
name_front (b ∷ g ∷ []) = None
name_front (b ∷ g ∷ l ∷ cs) = cond (b == left_brace) (cond (l == right_brace) (named_front g None cs) (second_front g l cs)) None

-- the category, or all characters outside of it, by the letter before it
abbrev pub signed_front : ℕ → Category × List ℕ → Option (Item × List ℕ)
signed_front p q = cond (p == letter_p) (Some (In q.0, q.1)) (cond (p == capital_p) (Some (NotIn q.0, q.1)) None)

-- charClassEsc, after its backslash
abbrev pub category_front : List ℕ → Option (Item × List ℕ)
category_front [] = None
category_front (p ∷ cs) = option_and_then (signed_front p) (name_front cs)

-- the text begins with the letter of a category
abbrev pub is_category_letter : List ℕ → Bool
is_category_letter [] = false
is_category_letter (c ∷ cs) = (c == letter_p) || (c == capital_p)

-- the text begins with a category
abbrev pub begins_category : List ℕ → Bool
begins_category [] = false
begins_category (c ∷ cs) = (c == reverse_solidus) && is_category_letter cs

-- the text after the first character
abbrev pub behind : List ℕ → List ℕ
behind [] = []
behind (c ∷ cs) = cs

-- CCE1
abbrev pub item_front : List ℕ → Option (Item × List ℕ)
item_front xs = cond (begins_category xs) (category_front (behind xs)) (characters_front xs)

-- the end of a class: its last `-`, and the bracket
abbrev pub closing : List Item → List ℕ → Option (List Item × List ℕ)
closing rs [] = None
closing rs (c ∷ cs) = cond (c == right_bracket) (Some (rs ++ Range hyphen hyphen ∷ [], cs)) None

-- one step of `tail_front`; `go` is for what follows an item
abbrev pub tail_step : (List Item → List ℕ → Option (List Item × List ℕ))
    → List Item → List ℕ → Option (List Item × List ℕ)
tail_step go rs [] = None
tail_step go rs (c ∷ cs) =
    cond (c == right_bracket) (Some (rs, cs)) (cond (c == hyphen) (closing rs cs)
    (option_and_then (λ p. go (rs ++ p.0 ∷ []) p.1) (item_front (c ∷ cs))))

-- the items of a class up to its end, of which there are fewer than n
abbrev pub tail_front : ℕ → List Item → List ℕ → Option (List Item × List ℕ)
tail_front zero rs xs = None
tail_front (suc n) rs xs = tail_step (tail_front n) rs xs

-- the rest of a class that begins with this item, of which the text is not longer than n
abbrev pub class_front : ℕ → Bool → Item × List ℕ → Option (Token × List ℕ)
class_front n negated p = option_map (λ q. (characters negated q.0, q.1)) (tail_front n (p.0 ∷ []) p.1)

-- a class from its first item on
abbrev pub first_front : ℕ → Bool → List ℕ → Option (Token × List ℕ)
first_front n negated [] = None
first_front n negated (c ∷ cs) =
    cond (c == hyphen) (class_front n negated (Range hyphen hyphen, cs)) (option_and_then (class_front n negated) (item_front (c ∷ cs)))

-- a class, after its bracket
abbrev pub bracket_front : List ℕ → Option (Token × List ℕ)
bracket_front [] = None
bracket_front (c ∷ cs) = cond (c == circumflex) (first_front (length cs) true cs) (first_front (suc (length cs)) false (c ∷ cs))

-- the number at the front, whose first digits gave n
abbrev pub digits_front : ℕ → List ℕ → ℕ × List ℕ
digits_front n [] = (n, [])
digits_front n (c ∷ cs) = cond (is_digit c) (digits_front (10 * n + (c - digit_zero)) cs) (n, c ∷ cs)

-- QuantExact
abbrev pub number_front : List ℕ → Option (ℕ × List ℕ)
number_front [] = None
number_front (c ∷ cs) = cond (is_digit c) (Some (digits_front (c - digit_zero) cs)) None

-- the end of a quantifier with both counts
abbrev pub most_end : ℕ → ℕ → List ℕ → Option (Token × List ℕ)
most_end n m [] = None
most_end n m (c ∷ cs) = cond (c == right_brace) (cond (nat_le n m) (Some (quantifier n (Some m), cs)) None) None

-- what follows the comma of a quantifier
abbrev pub most_front : ℕ → List ℕ → Option (Token × List ℕ)
most_front n [] = None
most_front n (c ∷ cs) =
    cond (c == right_brace) (Some (quantifier n None, cs)) (option_and_then (λ p. most_end n p.0 p.1) (number_front (c ∷ cs)))

-- what follows the first count of a quantifier
abbrev pub least_end : ℕ → List ℕ → Option (Token × List ℕ)
least_end n [] = None
least_end n (c ∷ cs) = cond (c == right_brace) (Some (quantifier n (Some n), cs)) (cond (c == comma) (most_front n cs) None)

-- a quantifier, after its brace
abbrev pub counts_front : List ℕ → Option (Token × List ℕ)
counts_front xs = option_and_then (λ p. least_end p.0 p.1) (number_front xs)

-- a character as a token
abbrev pub one_front : Option (ℕ × List ℕ) → Option (Token × List ℕ)
one_front o = option_map (λ p. (one p.0, p.1)) o

-- an item as a token
abbrev pub item_token : Option (Item × List ℕ) → Option (Token × List ℕ)
item_token o = option_map (λ p. (characters false (p.0 ∷ []), p.1)) o

-- the escape after a backslash, as a token
abbrev pub escape_token : List ℕ → Option (Token × List ℕ)
escape_token cs = cond (is_category_letter cs) (item_token (category_front cs)) (one_front (escape_front cs))

-- the first token of a text
abbrev pub token_front : List ℕ → Option (Token × List ℕ)
token_front [] = None
token_front (c ∷ cs) =
    cond (c == left_parenthesis) (Some (opened, cs))
    (cond (c == right_parenthesis) (Some (closed, cs))
    (cond (c == vertical_bar) (Some (bar, cs))
    (cond (c == asterisk) (Some (quantifier 0 None, cs))
    (cond (c == plus_sign) (Some (quantifier 1 None, cs))
    (cond (c == question_mark) (Some (quantifier 0 (Some 1), cs))
    (cond (c == left_brace) (counts_front cs)
    (cond (c == full_stop) (Some (any, cs))
    (cond (c == reverse_solidus) (escape_token cs)
    (cond (c == left_bracket) (bracket_front cs)
    (cond (is_normal c) (Some (one c, cs)) None))))))))))
