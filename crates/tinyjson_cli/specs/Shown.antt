-- Text as it is shown on a terminal.
use Rattle.std.specs.Char.{is_control}
use Rattle.std.specs.Int.{is_in_range}
use Rattle.std.specs.Prelude.{ℕ, Bool, ◌==◌, ◌||◌, List, [], ◌∷◌, ◌++◌, cond, encode_utf8_all}
use Rattle.tinyjson.specs.Error.{code_point}

-- the controls of direction: U+061C, U+200E, U+200F, U+202A to U+202E and U+2066 to U+2069
abbrev pub is_direction : ℕ → Bool
is_direction c = c == 1564 || (c == 8206 || (c == 8207 || (is_in_range 8234 8238 c || is_in_range 8294 8297 c)))

-- a control of a terminal, or of direction
abbrev pub is_hidden : ℕ → Bool
is_hidden c = is_control c || is_direction c

-- a character as it is shown, in UTF-8: itself, or the code point of a control
abbrev pub shown_char : ℕ → List ℕ
shown_char c = cond (is_hidden c) (code_point c) (encode_utf8_all (c ∷ []))

abbrev pub shown : List ℕ → List ℕ
shown [] = []
shown (c ∷ cs) = shown_char c ++ shown cs
