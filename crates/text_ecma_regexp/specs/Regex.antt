-- Regular expressions: `Pattern` of ECMA-262, 15th edition (2024), 22.2.1, with `UnicodeMode` and `NamedCaptureGroups`, and its early
-- errors (22.2.1.1).
-- A front is what follows it in the text, with its value if it has one; nothing if the text does not begin with it.
use Rattle.std.specs.Prelude.{ℕ, zero, suc, ◌+◌, ◌-◌, ◌*◌, ◌%◌, Bool, true, false, ◌&&◌, ◌||◌, ◌==◌, nat_le, nat_lt, not, List, [], ◌∷◌}
use Rattle.std.specs.Prelude.{length, Option, Some, None, option_map, option_and_then, unwrap_or, drop, cond, codes, bytes_eq}
use Rattle.std.specs.Char.{is_ascii_digit, is_ascii_hexdigit, is_ascii_alphabetic}
use Rattle.std.specs.List.{list_any, slice_split}
use Rattle.std.specs.Option.{option_map_or}
use Rattle.std.specs.Str.{continuation_len, lead_bits}
use Rattle.text_ecma_regexp.specs.Identifiers.{is_id_start, is_id_part}
use Rattle.text_ecma_regexp.specs.Letters.{begins, is_among, is_brace_end, is_empty, is_equals_sign, is_greater_sign, is_not_digit}
use Rattle.text_ecma_regexp.specs.PropertyNames.{general_categories, binary_properties, scripts}
use Rattle.text_uri.specs.Letters.{before, from, after}

-- `SyntaxCharacter`
abbrev pub is_syntax : ℕ → Bool
is_syntax c = is_among (codes "^$\\.*+?()[]{}|") c

-- the character at the front, from its bytes in UTF-8; the first has given n
abbrev pub joined : ℕ → ℕ → List ℕ → Option (ℕ × List ℕ)
joined zero n cs = Some (n, cs)
joined (suc more) n [] = None
joined (suc more) n (c ∷ cs) = joined more (n * 64 + (c - 128)) cs

abbrev pub character : List ℕ → Option (ℕ × List ℕ)
character [] = None
character (c ∷ cs) = joined (continuation_len c) (lead_bits c) cs

-- the value of a hexadecimal digit, and of two and four of them
abbrev pub hex : ℕ → ℕ
hex c = cond (nat_le c 57) (c - 48) (cond (nat_le c 70) (c - 55) (c - 87))

abbrev pub two_hex : List ℕ → Option (ℕ × List ℕ)
two_hex [] = None
two_hex (a ∷ []) = None
two_hex (a ∷ b ∷ cs) = cond (is_ascii_hexdigit a && is_ascii_hexdigit b) (Some (16 * hex a + hex b, cs)) None

abbrev pub four_hex : List ℕ → Option (ℕ × List ℕ)
four_hex text = option_and_then (λ p. option_map (λ q. (256 * p.0 + q.0, q.1)) (two_hex p.1)) (two_hex text)

-- `CodePoint` and its brace; the digits before have given n
abbrev pub code_point : ℕ → List ℕ → Option (ℕ × List ℕ)
code_point n [] = None
code_point n (c ∷ cs) = cond (c == 125) (Some (n, cs))
    (cond (is_ascii_hexdigit c && nat_le (16 * n + hex c) 1114111) (code_point (16 * n + hex c) cs) None)

abbrev pub braced : List ℕ → Option (ℕ × List ℕ)
braced text = cond (begins is_brace_end text) None (code_point 0 text)

-- surrogates, and the character of two of them
abbrev pub is_high : ℕ → Bool
is_high n = nat_le 55296 n && nat_le n 56319

abbrev pub is_low : ℕ → Bool
is_low n = nat_le 56320 n && nat_le n 57343

abbrev pub low_front : List ℕ → Option (ℕ × List ℕ)
low_front text = option_and_then (λ p. cond (is_low p.0) (Some p) None) (option_and_then four_hex (after (codes "\\u") text))

abbrev pub paired : ℕ × List ℕ → ℕ × List ℕ
paired p = cond (is_high p.0) (option_map_or (λ q. (65536 + (1024 * (p.0 - 55296) + (q.0 - 56320)), q.1)) (low_front p.1) p) p

-- `RegExpUnicodeEscapeSequence`, behind its `u`
abbrev pub unicode_front : List ℕ → Option (ℕ × List ℕ)
unicode_front text = option_map_or braced (after (codes "{") text) (option_map paired (four_hex text))

-- `AsciiLetter` of a control character, behind `c`; and the end of `0`
abbrev pub control_front : List ℕ → Option (ℕ × List ℕ)
control_front [] = None
control_front (c ∷ cs) = cond (is_ascii_alphabetic c) (Some (c % 32, cs)) None

abbrev pub null_front : List ℕ → Option (ℕ × List ℕ)
null_front text = cond (begins is_ascii_digit text) None (Some (0, text))

-- `ControlEscape` and `IdentityEscape`
abbrev pub escaped : ℕ → Option ℕ
escaped c = cond (c == 116) (Some 9) (cond (c == 110) (Some 10) (cond (c == 118) (Some 11) (cond (c == 102) (Some 12)
    (cond (c == 114) (Some 13) (cond (is_syntax c || (c == 47)) (Some c) None)))))

-- `CharacterEscape`
abbrev pub escape_front : List ℕ → Option (ℕ × List ℕ)
escape_front [] = None
escape_front (c ∷ cs) = cond (c == 99) (control_front cs) (cond (c == 120) (two_hex cs) (cond (c == 117) (unicode_front cs)
    (cond (c == 48) (null_front cs) (option_map (λ n. (n, cs)) (escaped c)))))

-- `UnicodePropertyValueExpression`: a property alone, or a property and its value
abbrev pub is_word : List ℕ → List ℕ → Bool
is_word words text = list_any (bytes_eq text) (slice_split (λ c. c == 32) words)

abbrev pub is_category_of : List ℕ → List ℕ → Bool
is_category_of name value = is_word (codes "General_Category gc") name && is_word general_categories value

abbrev pub is_script_of : List ℕ → List ℕ → Bool
is_script_of name value = is_word (codes "Script sc Script_Extensions scx") name && is_word scripts value

abbrev pub is_value : List ℕ → List ℕ → Bool
is_value name [] = is_word general_categories name || is_word binary_properties name
is_value name (c ∷ cs) = is_category_of name cs || is_script_of name cs

abbrev pub is_property : List ℕ → Bool
is_property text = is_value (before is_equals_sign text) (from is_equals_sign text)

-- a property in braces
abbrev pub property_end : List ℕ → Option (List ℕ)
property_end text = cond (is_property (before is_brace_end text)) (after (codes "}") (from is_brace_end text)) None

abbrev pub property_front : List ℕ → Option (List ℕ)
property_front text = option_and_then property_end (after (codes "{") text)

-- `CharacterClassEscape`
abbrev pub set_front : List ℕ → Option (List ℕ)
set_front [] = None
set_front (c ∷ cs) = cond (is_among (codes "dDsSwW") c) (Some cs) (cond ((c == 112) || (c == 80)) (property_front cs) None)

-- `ClassEscape`: a set has no value
abbrev pub set_or_character : List ℕ → Option (Option ℕ × List ℕ)
set_or_character text = option_map_or (λ rest. Some (None, rest)) (set_front text) (option_map (λ p. (Some p.0, p.1)) (escape_front text))

abbrev pub class_escape : List ℕ → Option (Option ℕ × List ℕ)
class_escape [] = None
class_escape (c ∷ cs) = cond (c == 98) (Some (Some 8, cs)) (cond (c == 45) (Some (Some 45, cs)) (set_or_character (c ∷ cs)))

-- `ClassAtom`
abbrev pub atom_front : List ℕ → Option (Option ℕ × List ℕ)
atom_front [] = None
atom_front (c ∷ cs) = cond (c == 92) (class_escape cs) (option_map (λ p. (Some p.0, p.1)) (character (c ∷ cs)))

-- a range is between two characters in order
abbrev pub is_range : Option ℕ → Option ℕ → Bool
is_range None last = false
is_range (Some n) None = false
is_range (Some n) (Some m) = nat_le n m

-- a `-` that is not the last of its class
abbrev pub begins_range : List ℕ → Bool
begins_range [] = false
begins_range (c ∷ cs) = (c == 45) && not (begins (λ d. d == 93) cs)

abbrev pub range_end : Option ℕ → List ℕ → Option (List ℕ)
range_end first [] = None
range_end first (c ∷ cs) = option_and_then (λ p. cond (is_range first p.0) (Some p.1) None) (atom_front cs)

-- an atom, or a range
abbrev pub member_front : List ℕ → Option (List ℕ)
member_front text = option_and_then (λ p. cond (begins_range p.1) (range_end p.0 p.1) (Some p.1)) (atom_front text)

-- `ClassContents` and its bracket; the text has at most n characters
abbrev pub members : ℕ → List ℕ → Option (List ℕ)
members zero text = None
members (suc n) text = option_map_or (λ rest. Some rest) (after (codes "]") text) (option_and_then (members n) (member_front text))

-- `CharacterClass`, behind its bracket
abbrev pub class_front : List ℕ → Option (List ℕ)
class_front text = option_map_or (λ rest. members (length rest) rest) (after (codes "^") text) (members (length text) text)

-- the number that digits write; those before have given n
abbrev pub number : ℕ → List ℕ → ℕ
number n [] = n
number n (c ∷ cs) = number (10 * n + (c - 48)) cs

-- a comma, the most, which is at least this, if it is there, and the brace
abbrev pub most_front : List ℕ → List ℕ → Option (List ℕ)
most_front least text = cond (is_empty (before is_not_digit text) || nat_le (number 0 least) (number 0 (before is_not_digit text)))
    (after (codes "}") (from is_not_digit text)) None

abbrev pub bounds_end : List ℕ → List ℕ → Option (List ℕ)
bounds_end least text = cond (is_empty least) None (option_map_or (most_front least) (after (codes ",") text) (after (codes "}") text))

-- `QuantifierPrefix`
abbrev pub prefix_front : List ℕ → Option (List ℕ)
prefix_front [] = None
prefix_front (c ∷ cs) = cond (is_among (codes "*+?") c) (Some cs)
    (cond (c == 123) (bounds_end (before is_not_digit cs) (from is_not_digit cs)) None)

-- what follows the `Quantifier`, if there is one
abbrev pub after_sign : List ℕ → List ℕ
after_sign text = unwrap_or (after (codes "?") text) text

abbrev pub after_quantifier : List ℕ → List ℕ
after_quantifier text = option_map_or after_sign (prefix_front text) text

-- `IdentifierStartChar` and `IdentifierPartChar`
abbrev pub is_start : ℕ → Bool
is_start c = (c == 36) || ((c == 95) || is_id_start c)

abbrev pub is_part : ℕ → Bool
is_part c = (c == 36) || ((c == 0x200C) || ((c == 0x200D) || is_id_part c))

-- a character of a name: by itself, or as a `RegExpUnicodeEscapeSequence` behind its backslash
abbrev pub name_character : List ℕ → Option (ℕ × List ℕ)
name_character text = option_map_or unicode_front (after (codes "\\u") text) (character text)

abbrev pub are_parts : ℕ → List ℕ → Bool
are_parts zero text = is_empty text
are_parts (suc n) [] = true
are_parts (suc n) (c ∷ cs) = option_map_or (λ p. is_part p.0 && are_parts n p.1) (name_character (c ∷ cs)) false

-- `RegExpIdentifierName`
abbrev pub is_name : List ℕ → Bool
is_name text = option_map_or (λ p. is_start p.0 && are_parts (length p.1) p.1) (name_character text) false

-- the characters of a text with at most n of them, as a name has them; names are the same if theirs are
abbrev pub name_value : ℕ → List ℕ → List ℕ
name_value zero text = []
name_value (suc n) text = option_map_or (λ p. p.0 ∷ name_value n p.1) (name_character text) []

abbrev pub is_same_name : List ℕ → List ℕ → Bool
is_same_name name other = bytes_eq (name_value (length name) name) (name_value (length other) other)

-- `GroupName`: its name, and what follows
abbrev pub group_name : List ℕ → Option (List ℕ)
group_name text = option_map (before is_greater_sign) (after (codes "<") text)

abbrev pub after_name : List ℕ → Option (List ℕ)
after_name text = option_and_then (λ rest. after (codes ">") (from is_greater_sign rest)) (after (codes "<") text)

-- The texts behind the parentheses that begin capturing groups. A text may begin behind a backslash, and inside of a class.
abbrev pub is_look_sign : ℕ → Bool
is_look_sign c = (c == 61) || (c == 33)

abbrev pub is_capturing : List ℕ → Bool
is_capturing text = option_map_or (λ rest. option_map_or (λ more. not (begins is_look_sign more)) (after (codes "<") rest) false)
    (after (codes "?") text) true

abbrev pub is_inside : Bool → Bool → ℕ → Bool
is_inside escaped inside c = cond escaped inside (cond (c == 91) true (cond (c == 93) false inside))

abbrev pub captures_from : Bool → Bool → List ℕ → List (List ℕ)
captures_from escaped inside [] = []
captures_from escaped inside (c ∷ cs) = cond ((not escaped && not inside) && ((c == 40) && is_capturing cs))
    (cs ∷ captures_from false false cs)
    (captures_from (not escaped && (c == 92)) (is_inside escaped inside c) cs)

abbrev pub captures : List ℕ → List (List ℕ)
captures text = captures_from false false text

-- the names of capturing groups
abbrev pub capture_name : List ℕ → Option (List ℕ)
capture_name text = option_and_then group_name (after (codes "?") text)

abbrev pub names : List (List ℕ) → List (List ℕ)
names [] = []
names (text ∷ texts) = option_map_or (λ name. name ∷ names texts) (capture_name text) (names texts)

abbrev pub are_distinct : List (List ℕ) → Bool
are_distinct [] = true
are_distinct (name ∷ more) = not (list_any (is_same_name name) more) && are_distinct more

-- at most 128 names, which differ
abbrev pub are_names : List (List ℕ) → Bool
are_names texts = nat_le (length texts) 128 && are_distinct texts

-- `GroupName` of one of the groups, whose names are these
abbrev pub reference_front : List (List ℕ) → List ℕ → Option (List ℕ)
reference_front known text = option_and_then (λ name. cond (is_name name && list_any (is_same_name name) known) (after_name text) None)
    (group_name text)

-- `DecimalEscape`: a number that is at most the number of groups
abbrev pub decimal_front : ℕ → List ℕ → Option (List ℕ)
decimal_front count text = cond (nat_le (number 0 (before is_not_digit text)) count)
    (Some (from is_not_digit text)) None

-- `AtomEscape`, behind its backslash, in a pattern with this number of capturing groups, whose names are known
abbrev pub set_or_letter : List ℕ → Option (List ℕ)
set_or_letter text = option_map (λ p. p.1) (set_or_character text)

abbrev pub atom_escape : ℕ → List (List ℕ) → List ℕ → Option (List ℕ)
atom_escape count known [] = None
atom_escape count known (c ∷ cs) = cond (nat_le 49 c && nat_le c 57) (decimal_front count (c ∷ cs))
    (cond (c == 107) (reference_front known cs) (set_or_letter (c ∷ cs)))

-- `\b` and `\B` are assertions, which have no quantifier
abbrev pub after_backslash : ℕ → List (List ℕ) → List ℕ → Option (List ℕ)
after_backslash count known [] = None
after_backslash count known (c ∷ cs) = cond ((c == 98) || (c == 66)) (Some cs)
    (option_map after_quantifier (atom_escape count known (c ∷ cs)))

-- a `|`, or a `Term` that is no group
abbrev pub term_front : ℕ → List (List ℕ) → ℕ → List ℕ → Option (List ℕ)
term_front count known c cs = cond (is_among (codes "|^$") c) (Some cs) (cond (c == 92) (after_backslash count known cs)
    (cond (c == 91) (option_map after_quantifier (class_front cs))
    (cond ((c == 46) || not (is_syntax c)) (Some (after_quantifier cs)) None)))

-- what begins a group, behind its parenthesis; whether the group may have a quantifier, as assertions have none
abbrev pub named_front : List ℕ → Option (Bool × List ℕ)
named_front text = cond (option_map_or is_name (group_name text) false) (option_map (λ rest. (true, rest)) (after_name text)) None

abbrev pub kind_front : List ℕ → Option (Bool × List ℕ)
kind_front [] = None
kind_front (c ∷ cs) = cond (c == 58) (Some (true, cs)) (cond (is_look_sign c) (Some (false, cs))
    (cond ((c == 60) && begins is_look_sign cs) (Some (false, drop 1 cs)) (named_front (c ∷ cs))))

abbrev pub group_front : List ℕ → Option (Bool × List ℕ)
group_front text = option_map_or kind_front (after (codes "?") text) (Some (true, text))

-- open groups, the innermost first: whether each may have a quantifier. There are at most 128.
abbrev pub opened : List Bool → List ℕ → Option (List Bool × List ℕ)
opened groups text = cond (nat_lt (length groups) 128) (option_map (λ p. (p.0 ∷ groups, p.1)) (group_front text)) None

abbrev pub closed : List Bool → List ℕ → Option (List Bool × List ℕ)
closed [] text = None
closed (quantifiable ∷ groups) text = Some (groups, cond quantifiable (after_quantifier text) text)

abbrev pub step : ℕ → List (List ℕ) → List Bool → List ℕ → Option (List Bool × List ℕ)
step count known groups [] = Some (groups, [])
step count known groups (c ∷ cs) = cond (c == 40) (opened groups cs) (cond (c == 41) (closed groups cs)
    (option_map (λ rest. (groups, rest)) (term_front count known c cs)))

-- `Disjunction`: parts of a pattern, each in the groups that are open, until the text ends and none is open
abbrev pub is_complete : List Bool → List ℕ → Bool
is_complete [] text = is_empty text
is_complete (quantifiable ∷ groups) text = false

abbrev pub is_disjunction : ℕ → List (List ℕ) → ℕ → List Bool → List ℕ → Bool
is_disjunction count known zero groups text = is_complete groups text
is_disjunction count known (suc n) groups text =
    option_map_or (λ p. is_disjunction count known n p.0 p.1) (step count known groups text) false

-- `Pattern`: names of groups differ, and its parts are at most as many as its characters
abbrev pub is_regex : List ℕ → Bool
is_regex text = are_names (names (captures text))
    && is_disjunction (length (captures text)) (names (captures text)) (length text) [] text
