-- The texts of normalized paths (RFC 9535, 2.7).
use Rattle.std.specs.Prelude.{ℕ, ◌+◌, ◌/◌, ◌%◌, ◌==◌, nat_lt, cond, Option, Some, None, List, [], ◌∷◌, ◌++◌, codes}
use Rattle.std.specs.Fmt.{decimal}
use Rattle.tinyjson_path.specs.Nodes.{Step, at_key, at_index}

abbrev pub hex_digit : ℕ → ℕ
hex_digit n = cond (nat_lt n 10) (48 + n) (87 + n)

-- the letters of the short escapes `\b`, `\t`, `\n`, `\f` and `\r`
abbrev pub control_letter : ℕ → Option ℕ
control_letter c =
    cond (c == 8) (Some 98) (cond (c == 9) (Some 116) (cond (c == 10) (Some 110) (cond (c == 12) (Some 102)
    (cond (c == 13) (Some 114) None))))

abbrev pub escape_with : ℕ → Option ℕ → List ℕ
escape_with c (Some letter) = 92 ∷ letter ∷ []
escape_with c None = codes "\\u00" ++ hex_digit (c / 16) ∷ hex_digit (c % 16) ∷ []

-- a short escape, or four digits
abbrev pub escape_control : ℕ → List ℕ
escape_control c = escape_with c (control_letter c)

abbrev pub escape_char : ℕ → List ℕ
escape_char c =
    cond (c == 39) (codes "\\'") (cond (c == 92) (codes "\\\\") (cond (nat_lt c 32) (escape_control c) (c ∷ [])))

abbrev pub escape : List ℕ → List ℕ
escape [] = []
escape (c ∷ cs) = escape_char c ++ escape cs

abbrev pub step_text : Step → List ℕ
step_text (at_key k) = codes "['" ++ (escape k ++ codes "']")
step_text (at_index i) = codes "[" ++ (decimal i ++ codes "]")

abbrev pub steps_text : List Step → List ℕ
steps_text [] = []
steps_text (s ∷ ss) = step_text s ++ steps_text ss

abbrev pub path_text : List Step → List ℕ
path_text ss = codes "$" ++ steps_text ss
