-- Letters, and texts of them.
use Rattle.std.specs.Prelude.{ℕ, Bool, true, false, ◌==◌, not, List, [], ◌∷◌}
use Rattle.std.specs.Char.{is_ascii_digit}
use Rattle.std.specs.List.{list_any}

abbrev pub is_empty : List ℕ → Bool
is_empty [] = true
is_empty (c ∷ cs) = false

abbrev pub begins : (ℕ → Bool) → List ℕ → Bool
begins test [] = false
begins test (c ∷ cs) = test c

abbrev pub is_among : List ℕ → ℕ → Bool
is_among letters c = list_any (λ d. d == c) letters

abbrev pub is_not_digit : ℕ → Bool
is_not_digit c = not (is_ascii_digit c)

abbrev pub is_brace_end : ℕ → Bool
is_brace_end c = c == 125

abbrev pub is_equals_sign : ℕ → Bool
is_equals_sign c = c == 61

abbrev pub is_greater_sign : ℕ → Bool
is_greater_sign c = c == 62
