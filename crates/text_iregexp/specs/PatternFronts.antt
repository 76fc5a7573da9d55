-- The first part of a pattern's text, and the text after it; for private contracts.
use Rattle.std.specs.Prelude.{◌≡◌, ℕ, zero, suc, ◌+◌, ◌*◌, Bool, true, false, ◌&&◌, ◌==◌, nat_le, cond, List, [], ◌∷◌, ◌++◌, length, Option}
use Rattle.std.specs.Prelude.{Some, None, map}
use Rattle.std.specs.Prelude.{option_map, option_and_then, Result, Ok, Err, codes}
use Rattle.std.specs.Option.{option_map_or}
use Rattle.std.specs.Borrow.{Bor}
use Rattle.std.specs.declared.alloc.Global.{Global}
use Rattle.std.specs.declared.vec.Vec.{Vec}
use Rattle.text_iregexp.specs.declared.error.IRegexpErrorKind.{IRegexpErrorKind}
use Rattle.text_iregexp.specs.declared.error.IRegexpErrorKind.TheVariants as kind
use Rattle.text_iregexp.specs.Characters.{left_parenthesis, right_parenthesis, vertical_bar, question_mark, full_stop}
use Rattle.text_iregexp.specs.Characters.{left_bracket, circumflex}
use Rattle.text_iregexp.specs.Characters.{reverse_solidus, left_brace, right_brace, digit_zero, letter_p, capital_p}
use Rattle.text_categories.specs.Names.{value_named}
use Rattle.text_regexp.specs.declared.assertion.Assertion.TheVariants.{Start, End, WordBoundary, NotWordBoundary}
use Rattle.text_regexp.specs.declared.class.Item.{Item}
use Rattle.text_iregexp.specs.declared.letter.Letter.{Letter}
use Rattle.text_iregexp.specs.declared.letter.Letter.TheVariants.{Plain, Literal, Named}
use Rattle.text_iregexp.specs.declared.letter.Set.{Set}
use Rattle.text_iregexp.specs.declared.letter.Set.TheVariants as set
use Rattle.text_iregexp.specs.declared.mark.Mark.TheVariants as code
use Rattle.text_iregexp.specs.declared.mark.Mark.{Mark as CodeMark}
use Rattle.text_iregexp.specs.Fronts.{token_of, token_front}
use Rattle.text_iregexp.specs.Grammar.{Token, characters, opened, closed, bar, quantifier, asserted, one}
use Rattle.text_iregexp.specs.Patterns.{dollar_sign, colon, equals_sign, exclamation_mark, letter_c, letter_x, letter_u, letter_items}
use Rattle.text_iregexp.specs.Patterns.{named_letter, hex_digit, byte_of}
use Rattle.text_iregexp.specs.Patterns.{code_of, is_high, scalar, pair_of, control_of, begins_with_digit, others}
use Rattle.text_iregexp.specs.Limits.{LargeCount}
use Rattle.text_iregexp.specs.Patterns.{ends_class, is_dash, class_items, letter_b, capital_b, Mark, look, token, dot, is_normal, fits}
use Rattle.text_iregexp.specs.Patterns.{less_than, greater_than, is_group_name, are_distinct}

-- the view of the code's mark
abbrev pub mark_of : CodeMark → Mark
mark_of (code.Look negated) = look negated
mark_of (code.Token t) = token (token_of t)

-- a character by its code
abbrev pub literal_front : List ℕ → Option ℕ → Option (Letter × List ℕ)
literal_front cs o = option_map (λ n. (Literal n, cs)) o

abbrev pub byte_front : List ℕ → Option (Letter × List ℕ)
byte_front [] = None
byte_front (a ∷ []) = None
byte_front (a ∷ b ∷ cs) = literal_front cs (byte_of a b)

-- the code of four digits
abbrev pub four_front : List ℕ → Option (ℕ × List ℕ)
four_front [] = None
four_front (a ∷ []) = None
four_front (a ∷ b ∷ []) = None
four_front (a ∷ b ∷ c ∷ []) = None
four_front (a ∷ b ∷ c ∷ d ∷ cs) = option_map (λ n. (n, cs)) (code_of a b c d)

-- the low surrogate after the high one m
abbrev pub low_front : ℕ → List ℕ → Option (Letter × List ℕ)
low_front m [] = None
low_front m (c ∷ []) = None
low_front m (c ∷ d ∷ cs) =
    cond ((c == reverse_solidus) && (d == letter_u)) (option_and_then (λ p. literal_front p.1 (pair_of m p.0)) (four_front cs)) None

-- what a code begins: a character, or a high surrogate
abbrev pub half_front : ℕ × List ℕ → Option (Letter × List ℕ)
half_front p = cond (is_high p.0) (low_front p.0 p.1) (literal_front p.1 (scalar p.0))

-- the value of the digits up to a brace, whose first digits gave n, unless it is above the last
-- character
abbrev pub value_front : ℕ → List ℕ → Option (ℕ × List ℕ)
value_front n [] = None
value_front n (c ∷ cs) =
    cond (c == right_brace) (Some (n, cs))
    (option_and_then (λ x. cond (nat_le (16 * n + x) 1114111) (value_front (16 * n + x) cs) None) (hex_digit c))

-- a code, after its brace
abbrev pub braced_front : List ℕ → Option (ℕ × List ℕ)
braced_front [] = None
braced_front (c ∷ cs) = cond (c == right_brace) None (value_front 0 (c ∷ cs))

-- a code after `\u`, of four digits or in braces
abbrev pub code_front : List ℕ → Option (ℕ × List ℕ)
code_front [] = None
code_front (c ∷ cs) = cond (c == left_brace) (braced_front cs) (four_front (c ∷ cs))

-- the letter after `\u`
abbrev pub unit_front : List ℕ → Option (Letter × List ℕ)
unit_front [] = None
unit_front (c ∷ cs) =
    cond (c == left_brace) (option_and_then (λ p. literal_front p.1 (scalar p.0)) (braced_front cs))
    (option_and_then half_front (four_front (c ∷ cs)))

-- the letter after `\c` and `\0`
abbrev pub control_front : List ℕ → Option (Letter × List ℕ)
control_front [] = None
control_front (c ∷ cs) = literal_front cs (control_of c)

abbrev pub null_front : List ℕ → Option (Letter × List ℕ)
null_front cs = cond (begins_with_digit cs) None (Some (Literal 0, cs))

-- the text up to this character, and the text after it
abbrev pub name_front : ℕ → List ℕ → Option (List ℕ × List ℕ)
name_front last [] = None
name_front last (c ∷ cs) = cond (c == last) (Some ([], cs)) (option_map (λ p. (c ∷ p.0, p.1)) (name_front last cs))

-- the rest of a text that begins with this one
abbrev pub behind : List ℕ → List ℕ → Option (List ℕ)
behind [] cs = Some cs
behind (d ∷ ds) [] = None
behind (d ∷ ds) (c ∷ cs) = cond (c == d) (behind ds cs) None

-- the rest is empty
abbrev pub is_whole : Option (List ℕ) → Bool
is_whole None = false
is_whole (Some []) = true
is_whole (Some (c ∷ cs)) = false

-- the text is this name
abbrev pub is_name : List ℕ → List ℕ → Bool
is_name ds cs = is_whole (behind ds cs)

-- the name of a value of General_Category, without the property before it
abbrev pub value_part : List ℕ → List ℕ
value_part cs = option_map_or (λ v. v) (behind (codes "gc=") cs) (option_map_or (λ v. v) (behind (codes "General_Category=") cs) cs)

-- the set of a property's name
abbrev pub property_of : List ℕ → Option Set
property_of cs =
    cond (is_name (codes "Any") cs) (Some set.All)
    (cond (is_name (codes "ASCII") cs) (Some set.Ascii)
    (cond (is_name (codes "Assigned") cs) (option_map (λ k. set.NotIn k) (value_named (codes "Cn")))
    (option_map (λ k. set.In k) (value_named (value_part cs)))))

-- a property, after its letter
abbrev pub property_front : List ℕ → Option (Set × List ℕ)
property_front [] = None
property_front (c ∷ cs) =
    cond (c == left_brace) (option_and_then (λ p. option_map (λ x. (x, p.1)) (property_of p.0)) (name_front right_brace cs)) None

-- the letter after a backslash
abbrev pub escape_front : List ℕ → Option (Letter × List ℕ)
escape_front [] = None
escape_front (l ∷ cs) =
    cond (l == letter_x) (byte_front cs) (cond (l == letter_u) (unit_front cs) (cond (l == letter_c) (control_front cs)
    (cond (l == digit_zero) (null_front cs) (cond (l == letter_p) (option_map (λ p. (Named p.0, p.1)) (property_front cs))
    (cond (l == capital_p) (option_map (λ p. (Named (others p.0), p.1)) (property_front cs))
    (option_map (λ x. (x, cs)) (named_letter l)))))))

abbrev pub letter_front : List ℕ → Option (Letter × List ℕ)
letter_front [] = None
letter_front (c ∷ cs) = cond (c == reverse_solidus) (escape_front cs) (Some (Plain c, cs))

-- one step of `letters_front`; `go` is for what follows
abbrev pub letters_step : (List Letter → List ℕ → Option (List Letter × List ℕ)) → List Letter → Letter × List ℕ
    → Option (List Letter × List ℕ)
letters_step go xs p = cond (ends_class p.0) (Some (xs, p.1)) (go (xs ++ p.0 ∷ []) p.1)

-- the letters of a class up to its end, of which there are fewer than n
abbrev pub letters_front : ℕ → List Letter → List ℕ → Option (List Letter × List ℕ)
letters_front zero xs cs = None
letters_front (suc n) xs cs = option_and_then (letters_step (letters_front n) xs) (letter_front cs)

-- a `^` that negates, and what follows
abbrev pub caret_front : List ℕ → Bool × List ℕ
caret_front [] = (false, [])
caret_front (c ∷ cs) = cond (c == circumflex) (true, cs) (false, c ∷ cs)

-- the class of these letters
abbrev pub class_of : Bool → List Letter × List ℕ → Option (Token × List ℕ)
class_of negated p = option_map (λ is. (characters negated is, p.1)) (class_items p.0)

-- a class from its first letter on
abbrev pub class_from : Bool × List ℕ → Option (Token × List ℕ)
class_from p = option_and_then (class_of p.0) (letters_front (suc (length p.1)) [] p.1)

-- a class, after its bracket
abbrev pub class_front : List ℕ → Option (Token × List ℕ)
class_front cs = class_from (caret_front cs)

-- the last letter of a range, after its `-`, and the letters after it
abbrev pub range_behind : List Letter → Option (Letter × List Letter)
range_behind [] = None
range_behind (y ∷ []) = None
range_behind (y ∷ z ∷ xs) = cond (is_dash y) (Some (z, xs)) None

-- what begins after `(?`: a group, or a look-ahead
abbrev pub special : ℕ → List ℕ → Option (Mark × List ℕ)
special d cs =
    cond (d == colon) (Some (token opened, cs)) (cond (d == equals_sign) (Some (look false, cs))
    (cond (d == exclamation_mark) (Some (look true, cs)) None))

-- what begins after `(`
abbrev pub opening : List ℕ → Option (Mark × List ℕ)
opening [] = Some (token opened, [])
opening (c ∷ []) = Some (token opened, c ∷ [])
opening (c ∷ d ∷ cs) = cond (c == question_mark) (special d cs) (Some (token opened, c ∷ d ∷ cs))

-- the text after a quantifier, without its `?`
abbrev pub eager : List ℕ → List ℕ
eager [] = []
eager (c ∷ cs) = cond (c == question_mark) cs (c ∷ cs)

-- a quantifier
abbrev pub repeat_front : Token × List ℕ → Option (Mark × List ℕ)
repeat_front (quantifier least most, cs) = Some (token (quantifier least most), eager cs)
repeat_front (characters negated is, cs) = None
repeat_front (opened, cs) = None
repeat_front (closed, cs) = None
repeat_front (bar, cs) = None
repeat_front (asserted kind, cs) = None

abbrev pub letter_mark : Letter × List ℕ → Mark × List ℕ
letter_mark p = (token (characters false (letter_items p.0)), p.1)

abbrev pub token_mark : Token × List ℕ → Mark × List ℕ
token_mark p = (token p.0, p.1)

-- the mark after a backslash: an assertion, or a letter
abbrev pub escape_mark : List ℕ → Option (Mark × List ℕ)
escape_mark [] = None
escape_mark (l ∷ cs) =
    cond (l == letter_b) (Some (token (asserted WordBoundary), cs)) (cond (l == capital_b) (Some (token (asserted NotWordBoundary), cs))
    (option_map letter_mark (escape_front (l ∷ cs))))

-- the first mark of a text, whatever follows
abbrev pub sign_front : List ℕ → Option (Mark × List ℕ)
sign_front [] = None
sign_front (c ∷ cs) =
    cond (c == circumflex) (Some (token (asserted Start), cs))
    (cond (c == dollar_sign) (Some (token (asserted End), cs))
    (cond (c == left_parenthesis) (opening cs)
    (cond (c == right_parenthesis) (Some (token closed, cs))
    (cond (c == vertical_bar) (Some (token bar, cs))
    (cond (c == full_stop) (Some (token dot, cs))
    (cond (c == reverse_solidus) (escape_mark cs)
    (cond (c == left_bracket) (option_map token_mark (class_front cs))
    (cond (is_normal c) (Some (token (one c), cs))
    (option_and_then repeat_front (token_front (c ∷ cs)))))))))))

-- the mark, if it may be before the text that follows
abbrev pub fitting : Mark × List ℕ → Option (Mark × List ℕ)
fitting p = cond (fits p.0 p.1) (Some p) None

-- the first mark of a text
abbrev pub mark_front : List ℕ → Option (Mark × List ℕ)
mark_front cs = option_and_then fitting (sign_front cs)

-- ---- groups with names

-- this name, and the text after it, if it may be one
abbrev pub naming : List ℕ × List ℕ → Option (List ℕ × List ℕ)
naming p = cond (is_group_name p.0) (Some p) None

-- the name of a group, and the text after it, if the text begins with `(?<` and a name
abbrev pub named_front : List ℕ → Option (List ℕ × List ℕ)
named_front [] = None
named_front (a ∷ []) = None
named_front (a ∷ b ∷ []) = None
named_front (a ∷ b ∷ c ∷ cs) =
    cond ((a == left_parenthesis) && ((b == question_mark) && (c == less_than))) (option_and_then naming (name_front greater_than cs)) None

-- a mark that has no name, and one that begins a group with a name
abbrev pub without_name : Mark × List ℕ → Mark × (List (List ℕ) × List ℕ)
without_name p = (p.0, ([], p.1))

abbrev pub with_name : List ℕ × List ℕ → Mark × (List (List ℕ) × List ℕ)
with_name p = (token opened, (p.0 ∷ [], p.1))

-- the first mark of a text, with its name if it has one, and the text after it
abbrev pub next_front : List ℕ → Option (Mark × (List (List ℕ) × List ℕ))
next_front cs = option_map_or (λ p. Some (with_name p)) (named_front cs) (option_map without_name (mark_front cs))

-- ---- what the code returns

-- this mark is the next one, and its name is added to those that were read, if they stay distinct
abbrev pub Takes : List ℕ → Mark → List ℕ → List (List ℕ) → List (List ℕ) → Type 0
Takes cs m ys old new =
    (names : List (List ℕ)) × (next_front cs ≡ Some (m, (names, ys))) × (new ≡ old ++ names)
    × (are_distinct old ≡ true → are_distinct new ≡ true)

-- what the next mark of a text does to the names that were read
abbrev pub TakesName : List ℕ → List (List ℕ) → Result (CodeMark × Bor (List ℕ)) IRegexpErrorKind → List (List ℕ) → Type 0
TakesName cs old (Ok r) new = Takes cs (mark_of r.0) r.1.now old new
TakesName cs old (Err kind.Invalid) new =
    (m : Mark) (names : List (List ℕ)) (ys : List ℕ) → next_front cs ≡ Some (m, (names, ys)) → are_distinct (old ++ names) ≡ false
TakesName cs old (Err kind.TooDeep) new = ⊥
TakesName cs old (Err kind.TooLarge) new = LargeCount cs
TakesName cs old (Err kind.OutOfMemory) new = Unit {0}

-- the names that are kept
abbrev pub names_of : List (Vec ℕ Global) → List (List ℕ)
names_of vs = map (λ v. v.items) vs

-- the code at the front of a text, if there is one
abbrev pub CodeFront : Option (ℕ × List ℕ) → Option (ℕ × Bor (List ℕ)) → Type 0
CodeFront o None = o ≡ None
CodeFront o (Some p) = o ≡ Some (p.0, p.1.now)

-- the name at the front of a text, if there is one
abbrev pub NameFront : Option (List ℕ × List ℕ) → Option (Bor (List ℕ) × Bor (List ℕ)) → Type 0
NameFront o None = o ≡ None
NameFront o (Some p) = o ≡ Some (p.0.now, p.1.now)

-- the rest of a text, if there is one
abbrev pub RestOf : Option (List ℕ) → Option (Bor (List ℕ)) → Type 0
RestOf o None = o ≡ None
RestOf o (Some r) = o ≡ Some r.now

-- the items of a class, if these letters have items
abbrev pub ReadsItems : List Letter → Result (Vec Item Global) IRegexpErrorKind → Type 0
ReadsItems xs (Ok v) = class_items xs ≡ Some v.items
ReadsItems xs (Err kind.Invalid) = class_items xs ≡ None
ReadsItems xs (Err kind.TooDeep) = ⊥
ReadsItems xs (Err kind.TooLarge) = ⊥
ReadsItems xs (Err kind.OutOfMemory) = Unit {0}

abbrev pub RangeBehind : List Letter → Option (Letter × Bor (List Letter)) → Type 0
RangeBehind xs None = range_behind xs ≡ None
RangeBehind xs (Some p) = range_behind xs ≡ Some (p.0, p.1.now)

-- items, if there are any, are appended to the first ones
abbrev pub Appends : Option (List Item) → List Item → Result (Unit {0}) IRegexpErrorKind → List Item → Type 0
Appends o old (Ok x) new = (is : List Item) × (o ≡ Some is) × (new ≡ old ++ is)
Appends o old (Err kind.Invalid) new = o ≡ None
Appends o old (Err kind.TooDeep) new = ⊥
Appends o old (Err kind.TooLarge) new = ⊥
Appends o old (Err kind.OutOfMemory) new = Unit {0}
