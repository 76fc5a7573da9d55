-- JSON Pointers (RFC 6901, section 3), and relative ones (draft-bhutton-relative-json-pointer-00, section 3).
use Rattle.std.specs.Prelude.{ℕ, Bool, true, false, ◌&&◌, ◌||◌, ◌==◌, not, List, [], ◌∷◌, cond}
use Rattle.text_formats.specs.Letters.{each, begins, is_empty, is_not_digit, is_pointer_letter}
use Rattle.text_uri.specs.Letters.{before, from}

abbrev pub is_pointer : List ℕ → Bool
is_pointer [] = true
is_pointer (c ∷ cs) = (c == 47) && each is_pointer_letter cs

abbrev pub is_number_sign : List ℕ → Bool
is_number_sign [] = false
is_number_sign (c ∷ cs) = (c == 35) && is_empty cs

-- `non-negative-integer`: digits, without a leading zero
abbrev pub is_number : List ℕ → Bool
is_number [] = false
is_number (c ∷ cs) = is_empty cs || not (c == 48)

-- what follows the numbers: `#` or a pointer
abbrev pub is_end : List ℕ → Bool
is_end text = is_number_sign text || is_pointer text

-- `positive-integer`, and what follows
abbrev pub is_step : List ℕ → Bool
is_step text = begins (λ c. not (c == 48)) (before is_not_digit text) && is_end (from is_not_digit text)

-- an `index-manipulation`, if one is there, and what follows
abbrev pub is_after_number : List ℕ → Bool
is_after_number [] = true
is_after_number (c ∷ cs) = cond ((c == 43) || (c == 45)) (is_step cs) (is_end (c ∷ cs))

abbrev pub is_relative_pointer : List ℕ → Bool
is_relative_pointer text = is_number (before is_not_digit text) && is_after_number (from is_not_digit text)
