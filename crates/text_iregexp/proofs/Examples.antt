-- Instances of the definitions, computed.
use Rattle.std.proofs.Common.{◌≡◌, ◌≤◌, ℕ, true, false, [], ◌∷◌, Option, Some, None, inr, refl, arith}
use Rattle.std.specs.Prelude.{codes}
use Rattle.text_regexp.specs.declared.class.Item.TheVariants.{Range, In, NotIn}
use Rattle.text_regexp.specs.Forms.{Form, empty, class, concat, alternation, repetition, is_within, is_in_class, MatchesIn, Matches}
use Rattle.text_regexp.specs.Forms.{Searches}
use Rattle.text_iregexp.specs.Fronts.{token_front}
use Rattle.text_iregexp.specs.Grammar.{characters, quantifier, one, IsText}
use Rattle.text_iregexp.specs.Grammar as is
use Rattle.text_iregexp.specs.declared.letter.Letter.TheVariants.{Plain}
use Rattle.text_iregexp.specs.declared.letter.Set.TheVariants as set
use Rattle.text_iregexp.specs.Patterns.{class_items, set_items, token}
use Rattle.text_iregexp.specs.PatternDeciding.{is_pattern, is_found as is_found_in}
use Rattle.text_iregexp.specs.PatternFronts.{mark_front}

-- ---- classes (RFC 9485, section 4)

b_is_in_class : is_in_class false (Range 97 99 ∷ []) 98 ≡ true
b_is_in_class = refl

d_is_in_no_class : is_in_class false (Range 97 99 ∷ []) 100 ≡ false
d_is_in_no_class = refl

b_is_in_no_negated_class : is_in_class true (Range 97 99 ∷ []) 98 ≡ false
b_is_in_no_negated_class = refl

-- ---- what is matched

a : Form
a = class false (Range 97 97 ∷ [])

matches_a : (before after : Option ℕ) → MatchesIn a before (codes "a") after
unfolding a
matches_a before after = (97, refl, refl)

star_matches_nothing : Matches (repetition a 0 None) []
star_matches_nothing = (0, omega arith, tt, refl)

star_matches_two : Matches (repetition a 0 None) (codes "aa")
star_matches_two = (
  2,
  omega arith,
  tt,
  (
    codes "a",
    codes "a",
    refl,
    matches_a None (Some 97),
    (codes "a", [], refl, matches_a (Some 97) None, refl),
  ),
)

second_branch_matches : Matches (alternation empty a) (codes "a")
second_branch_matches = inr (matches_a None None)

one_after_another : Matches (concat a (repetition a 1 (Some 1))) (codes "aa")
one_after_another =
    let once : 1 ≤ 1 = omega arith in
    (codes "a", codes "a", refl, matches_a None (Some 97), (1, omega arith, once, (codes "a", [], refl, matches_a (Some 97) None, refl)))

is_found : Searches a (codes "bab")
is_found = record { before = codes "b"; part = codes "a"; after = codes "b"; split = refl; matched = matches_a (Some 98) (Some 98) }

-- ---- which text is which token (section 3)

class_with_a_hyphen : token_front (codes "[^a-]b") ≡ Some (characters true (Range 97 97 ∷ Range 45 45 ∷ []), codes "b")
class_with_a_hyphen = refl

class_of_a_range : token_front (codes "[a-c^]") ≡ Some (characters false (Range 97 99 ∷ Range 94 94 ∷ []), [])
class_of_a_range = refl

falling_range : token_front (codes "[c-a]") ≡ None
falling_range = refl

empty_class : token_front (codes "[]") ≡ None
empty_class = refl

caret_alone : token_front (codes "[^]") ≡ None
caret_alone = refl

counts : token_front (codes "{2,13}") ≡ Some (quantifier 2 (Some 13), [])
counts = refl

count_alone : token_front (codes "{2,}") ≡ Some (quantifier 2 None, [])
count_alone = refl

falling_counts : token_front (codes "{3,2}") ≡ None
falling_counts = refl

no_least_count : token_front (codes "{,2}") ≡ None
no_least_count = refl

tab : token_front (codes "\\t") ≡ Some (one 9, [])
tab = refl

dollar : token_front (codes "$") ≡ Some (one 36, [])
dollar = refl

shorthand : token_front (codes "\\d") ≡ None
shorthand = refl

capitals : token_front (codes "\\p{Lu}x") ≡ Some (characters false (In record { first = 0; last = 0 } ∷ []), codes "x")
capitals = refl

others_than_numbers : token_front (codes "[a\\P{N}]")
    ≡ Some (characters false (Range 97 97 ∷ NotIn record { first = 8; last = 10 } ∷ []), [])
others_than_numbers = refl

surrogates : token_front (codes "\\p{Cs}") ≡ None
surrogates = refl

-- ---- which text is which regular expression

two_branches : IsText (codes "a|.") (is.branches (is.pieces (is.once (is.character false (Range 97 97 ∷ []))) is.nothing)
    (is.last (is.pieces (is.once (is.character true (Range 10 10 ∷ Range 13 13 ∷ []))) is.nothing)))
two_branches = record { spelled = is.more (is.normal 97 refl) (is.more is.parts (is.more is.dot is.none)) }

-- ---- patterns of schemas: `*?` is `*`, and no `?` follows it; `[a-c-]`; `\w` has `_`, and `\W` has not; U+FEFF is white space

lazy_star : mark_front (42 ∷ 63 ∷ 97 ∷ []) ≡ Some (token (quantifier 0 None), 97 ∷ [])
lazy_star = refl

lazy_twice : mark_front (42 ∷ 63 ∷ 63 ∷ []) ≡ None
lazy_twice = refl

range_and_dash : class_items (Plain 97 ∷ Plain 45 ∷ Plain 99 ∷ Plain 45 ∷ []) ≡ Some (Range 97 99 ∷ Range 45 45 ∷ [])
range_and_dash = refl

underscore : is_within (set_items set.Words) 95 ≡ true
underscore = refl

no_underscore : is_within (set_items set.NoWords) 95 ≡ false
no_underscore = refl

byte_order_mark : is_within (set_items set.Spaces) 65279 ≡ true
byte_order_mark = refl

-- ---- a pattern is found anywhere, unless `^` and `$` say where; what is none is found nowhere

within : is_found_in (codes "b") (codes "abc") ≡ true
within = refl

not_at_the_beginning : is_found_in (codes "^b") (codes "abc") ≡ false
not_at_the_beginning = refl

at_the_end : is_found_in (codes "^b|c$") (codes "abc") ≡ true
at_the_end = refl

nothing_in_nothing : is_found_in [] [] ≡ true
nothing_in_nothing = refl

more_than_nothing : is_found_in (codes "^$") (codes "a") ≡ false
more_than_nothing = refl

open_group : is_found_in (codes "(") (codes "(") ≡ false
open_group = refl

look_ahead : is_pattern (codes "a(?=b)") ≡ false
look_ahead = refl

-- ---- `\0` has no digit behind it, also in a class; two halves are one character, and one alone is none

null_and_digit : is_pattern (codes "\\01") ≡ false
null_and_digit = refl

null_and_letter : is_found_in (codes "^\\0a$") (0 ∷ 97 ∷ []) ≡ true
null_and_letter = refl

null_and_digit_in_class : is_pattern (codes "[\\01]") ≡ false
null_and_digit_in_class = refl

control_letter : is_found_in (codes "^\\cJ\\cj$") (10 ∷ 10 ∷ []) ≡ true
control_letter = refl

two_halves : is_found_in (codes "^\\ud83d\\ude00$") (128512 ∷ []) ≡ true
two_halves = refl

one_half : is_pattern (codes "\\ud83d") ≡ false
one_half = refl

in_braces : is_found_in (codes "^\\u{01F600}$") (128512 ∷ []) ≡ true
in_braces = refl

past_the_last : is_pattern (codes "\\u{110000}") ≡ false
past_the_last = refl

-- ---- assertions are anywhere, and not repeated

end_in_branch : is_found_in (codes "a$b") (codes "ab") ≡ false
end_in_branch = refl

end_in_group : is_found_in (codes "a(b|$)") (codes "a") ≡ true
end_in_group = refl

beginning_in_group : is_found_in (codes "(^|,)x") (codes ",x") ≡ true
beginning_in_group = refl

no_beginning_in_group : is_found_in (codes "(^|,)x") (codes "ax") ≡ false
no_beginning_in_group = refl

word_begins : is_found_in (codes "\\bb") (codes "-b") ≡ true
word_begins = refl

word_goes_on : is_found_in (codes "\\bb") (codes "ab") ≡ false
word_goes_on = refl

within_word : is_found_in (codes "\\Bb") (codes "ab") ≡ true
within_word = refl

repeated_assertion : is_pattern (codes "^*") ≡ false
repeated_assertion = refl

-- ---- a group with a name is a group; no two have the same name

named_group : is_found_in (codes "^(?<year>a)+$") (codes "aa") ≡ true
named_group = refl

other_name : is_pattern (codes "(?<a>b)|(?<ab>c)") ≡ true
other_name = refl

repeated_name : is_pattern (codes "(?<a>b)|(?<a>c)") ≡ false
repeated_name = refl

name_of_a_digit : is_pattern (codes "(?<1>b)") ≡ false
name_of_a_digit = refl

look_behind : is_pattern (codes "(?<=b)") ≡ false
look_behind = refl
