-- Letters, and texts of them. A test gets a byte and the bytes after it.
use Rattle.std.specs.Prelude.{ℕ, Bool, true, false, ◌&&◌, ◌||◌, ◌==◌, not, List, [], ◌∷◌, Option, Some, None, cond, codes}
use Rattle.std.specs.Char.{is_ascii_hexdigit, is_ascii_alphanumeric, to_ascii_lowercase}
pub use Rattle.text_ecma_regexp.specs.Letters.{is_empty, begins, is_among, is_not_digit, is_brace_end}

abbrev pub each : (ℕ → List ℕ → Bool) → List ℕ → Bool
each test [] = true
each test (c ∷ cs) = test c cs && each test cs

-- the text after the word, whose letters may have either case, as those of ABNF's strings (RFC 5234, section 2.3)
abbrev pub after_word : List ℕ → List ℕ → Option (List ℕ)
after_word [] text = Some text
after_word (d ∷ word) [] = None
after_word (d ∷ word) (c ∷ cs) = cond (to_ascii_lowercase c == to_ascii_lowercase d) (after_word word cs) None

abbrev pub is_at_sign : ℕ → Bool
is_at_sign c = c == 64

abbrev pub is_colon : ℕ → Bool
is_colon c = c == 58

abbrev pub is_dot : ℕ → Bool
is_dot c = c == 46

abbrev pub is_bracket_end : ℕ → Bool
is_bracket_end c = c == 93

abbrev pub is_brace : ℕ → Bool
is_brace c = c == 123

abbrev pub is_modifier : ℕ → Bool
is_modifier c = (c == 58) || (c == 42)

-- `unreserved` and `sub-delims` of RFC 3986, section 2
abbrev pub is_unreserved : ℕ → Bool
is_unreserved c = is_ascii_alphanumeric c || is_among (codes "-._~") c

abbrev pub is_sub_delimiter : ℕ → Bool
is_sub_delimiter c = is_among (codes "!$&'()*+,;=") c

abbrev pub begins_with_pair : List ℕ → Bool
begins_with_pair [] = false
begins_with_pair (c ∷ cs) = is_ascii_hexdigit c && begins is_ascii_hexdigit cs

-- the letters of a part of a URI: such letters, others of that part, and `%` before two hexadecimal digits (section 2.1)
abbrev pub is_uri_letter : List ℕ → ℕ → List ℕ → Bool
is_uri_letter others c cs = (is_unreserved c || (is_sub_delimiter c || is_among others c)) || ((c == 37) && begins_with_pair cs)

-- the letters of a host name's label (RFC 1123, section 2.1), and of an atom of a mailbox (`atext` of RFC 5322, section 3.2.3)
abbrev pub is_label_letter : ℕ → Bool
is_label_letter c = is_ascii_alphanumeric c || (c == 45)

abbrev pub is_atom_letter : ℕ → Bool
is_atom_letter c = is_ascii_alphanumeric c || is_among (codes "!#$%&'*+-/=?^_`{|}~") c

-- `~` is before `0` or `1` (RFC 6901, section 3)
abbrev pub is_pointer_letter : ℕ → List ℕ → Bool
is_pointer_letter c cs = not (c == 126) || begins (λ d. (d == 48) || (d == 49)) cs
