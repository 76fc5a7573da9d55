-- Texts of a fixed form.
use Rattle.std.specs.Prelude.{ℕ, ◌+◌, ◌-◌, ◌*◌, Bool, true, false, ◌&&◌, ◌==◌, List, [], ◌∷◌, cond, codes}
use Rattle.std.specs.Char.{is_ascii_digit, is_ascii_hexdigit}
use Rattle.std.specs.List.{slice_index}

-- In a form `0` stands for a digit, `x` for a hexadecimal digit, and another character for itself.
abbrev pub fits : ℕ → ℕ → Bool
fits mark c = cond (mark == 48) (is_ascii_digit c) (cond (mark == 120) (is_ascii_hexdigit c) (c == mark))

abbrev pub has_form : List ℕ → List ℕ → Bool
has_form [] [] = true
has_form [] (c ∷ cs) = false
has_form (mark ∷ form) [] = false
has_form (mark ∷ form) (c ∷ cs) = fits mark c && has_form form cs

-- the number that the two digits at the place write
abbrev pub two : ℕ → List ℕ → ℕ
two at text = 10 * (slice_index text at - 48) + (slice_index text (at + 1) - 48)

-- RFC 4122, section 3
abbrev pub is_uuid : List ℕ → Bool
is_uuid text = has_form (codes "xxxxxxxx-xxxx-xxxx-xxxx-xxxxxxxxxxxx") text
