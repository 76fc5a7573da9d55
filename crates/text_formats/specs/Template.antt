-- URI templates (RFC 6570, section 2).
use Rattle.std.specs.Prelude.{ℕ, Bool, true, false, ◌&&◌, ◌||◌, ◌==◌, nat_le, not, List, [], ◌∷◌, length, cond, codes}
use Rattle.std.specs.Char.{is_ascii_digit, is_ascii_alphanumeric}
use Rattle.std.specs.List.{list_all, list_any, slice_split}
use Rattle.std.specs.Str.{chars}
use Rattle.text_formats.specs.Letters.{each, is_empty, is_among, is_brace, is_brace_end, is_modifier, begins_with_pair}
use Rattle.text_uri.specs.Letters.{before, from}

-- `ucschar` and `iprivate` (section 1.5): the first and the last character of each range
abbrev pub wide_ranges : List (ℕ × ℕ)
wide_ranges = (160, 55295) ∷ (57344, 64975) ∷ (65008, 65519) ∷ (65536, 131069) ∷ (131072, 196605) ∷ (196608, 262141)
    ∷ (262144, 327677) ∷ (327680, 393213) ∷ (393216, 458749) ∷ (458752, 524285) ∷ (524288, 589821) ∷ (589824, 655357)
    ∷ (655360, 720893) ∷ (720896, 786429) ∷ (786432, 851965) ∷ (851968, 917501) ∷ (921600, 983037) ∷ (983040, 1048573)
    ∷ (1048576, 1114109) ∷ []

abbrev pub is_within : ℕ → (ℕ × ℕ) → Bool
is_within c range = nat_le range.0 c && nat_le c range.1

-- a character of ASCII, or one of these ranges
abbrev pub is_known : ℕ → Bool
is_known c = nat_le c 127 || list_any (is_within c) wide_ranges

-- `literals` (section 2.1): letters but these, and `%` before two hexadecimal digits
abbrev pub is_plain : ℕ → Bool
is_plain c = (nat_le 33 c && nat_le c 126) && not (is_among (codes "\"'<>\\^`{|}") c)

abbrev pub is_literal : ℕ → List ℕ → Bool
is_literal c cs = cond (c == 37) (begins_with_pair cs) (nat_le 128 c || is_plain c)

-- `varchar`
abbrev pub is_name_letter : ℕ → List ℕ → Bool
is_name_letter c cs = (is_ascii_alphanumeric c || (c == 95)) || ((c == 37) && begins_with_pair cs)

abbrev pub is_name_part : List ℕ → Bool
is_name_part text = not (is_empty text) && each is_name_letter text

-- `varname`
abbrev pub is_name : List ℕ → Bool
is_name text = list_all is_name_part (slice_split (λ c. c == 46) text)

-- `max-length`: a number from 1 to 9999
abbrev pub is_most : List ℕ → Bool
is_most [] = false
is_most (c ∷ cs) = not (c == 48) && (each (λ d ds. is_ascii_digit d) (c ∷ cs) && nat_le (length cs) 3)

-- `modifier-level4`, or nothing
abbrev pub is_modified : List ℕ → Bool
is_modified [] = true
is_modified (c ∷ cs) = cond (c == 42) (is_empty cs) (is_most cs)

-- `varspec`
abbrev pub is_variable : List ℕ → Bool
is_variable text = is_name (before is_modifier text) && is_modified (from is_modifier text)

-- `variable-list`
abbrev pub are_variables : List ℕ → Bool
are_variables text = list_all is_variable (slice_split (λ c. c == 44) text)

-- what is in the braces of an expression (section 2.2): an operator, if there is one, and variables
abbrev pub is_expression : List ℕ → Bool
is_expression [] = false
is_expression (c ∷ cs) = are_variables (cond (is_among (codes "+#./;?&=,!@|") c) cs (c ∷ cs))

-- literals after the brace that ends an expression
abbrev pub is_end : List ℕ → Bool
is_end [] = false
is_end (c ∷ cs) = each is_literal cs

-- what is after a brace that begins an expression, up to the next one
abbrev pub is_piece : List ℕ → Bool
is_piece text = is_expression (before is_brace_end text) && is_end (from is_brace_end text)

-- the first brace, and what follows it
abbrev pub are_pieces : List ℕ → Bool
are_pieces [] = true
are_pieces (c ∷ cs) = list_all is_piece (slice_split is_brace cs)

abbrev pub is_of_pieces : List ℕ → Bool
is_of_pieces text = each is_literal (before is_brace text) && are_pieces (from is_brace text)

abbrev pub is_template : List ℕ → Bool
is_template text = list_all is_known (chars text) && is_of_pieces text
