-- Bytes that end a run.
use Rattle.std.specs.Prelude.{ℕ, Bool, not, ◌||◌, ◌==◌, nat_lt}
use Rattle.tinyjson_bytes.specs.Characters.{line_feed, quotation_mark, reverse_solidus, space}

-- a quotation mark, a backslash or a control character
abbrev pub is_stop : ℕ → Bool
is_stop b = (b == quotation_mark) || (b == reverse_solidus) || nat_lt b space

abbrev pub is_plain : ℕ → Bool
is_plain b = not (is_stop b)

-- no line feed
abbrev pub is_in_line : ℕ → Bool
is_in_line b = not (b == line_feed)

-- what does not pass a test
abbrev pub fails : (ℕ → Bool) → ℕ → Bool
fails q b = not (q b)
