-- Names of hosts (RFC 1123, section 2.1; RFC 1034, section 3.1).
use Rattle.std.specs.Prelude.{ℕ, ◌-◌, Bool, true, ◌&&◌, ◌||◌, ◌==◌, nat_le, not, List, [], ◌∷◌, length}
use Rattle.std.specs.Char.{is_ascii_digit}
use Rattle.std.specs.List.{list_all, slice_index, slice_split}
use Rattle.text_formats.specs.Letters.{each, is_label_letter}

-- letters, digits and inner hyphens, at most 63
abbrev pub is_label : List ℕ → Bool
is_label text = each (λ c cs. is_label_letter c) text && ((nat_le 1 (length text) && nat_le (length text) 63)
    && (not (slice_index text 0 == 45) && not (slice_index text (length text - 1) == 45)))

-- labels between dots, at most 253 bytes
abbrev pub are_labels : List ℕ → Bool
are_labels text = list_all is_label (slice_split (λ c. c == 46) text)

abbrev pub is_name : List ℕ → Bool
is_name text = nat_le (length text) 253 && are_labels text

-- only digits are behind the last dot; the flag says so of what was before the text
abbrev pub ends_with_digits : Bool → List ℕ → Bool
ends_with_digits digits [] = digits
ends_with_digits digits (c ∷ cs) = ends_with_digits ((c == 46) || (digits && is_ascii_digit c)) cs

-- the last label has a letter, or a hyphen: an address, #.#.#.#, is no name of a host
abbrev pub is_hostname : List ℕ → Bool
is_hostname text = is_name text && not (ends_with_digits true text)
