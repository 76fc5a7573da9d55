-- Lines and columns, by a closed form on what was consumed.
use Rattle.std.specs.Prelude.{ℕ, ◌+◌, min, Bool, cond, List, length, not, ◌==◌}
use Rattle.std.specs.List.{count_by, suffix_len}
use Rattle.tinyjson_grammar.specs.Characters.{line_feed}

-- The line begins at 1. The column is the number of characters after the last line feed.
pub record Position : Type 0 where
  pub line : ℕ
  pub column : ℕ

abbrev pub position_at : ℕ → ℕ → Position
position_at l c = record { line = l; column = c }

-- the position of a new parser
abbrev pub origin : Position
origin = position_at 1 0

abbrev pub is_line_feed : ℕ → Bool
is_line_feed c = c == line_feed

abbrev pub is_within_line : ℕ → Bool
is_within_line c = not (is_line_feed c)

abbrev pub line_feeds : List ℕ → ℕ
line_feeds xs = count_by is_line_feed xs

-- how many characters follow the last line feed
abbrev pub after_line_feed : List ℕ → ℕ
after_line_feed xs = suffix_len is_within_line xs

-- both stop at the largest `usize`
abbrev pub capped : ℕ → ℕ
capped n = min n 18446744073709551615

-- the position after xs, from the position p on
unfoldable pub advance : Position → List ℕ → Position
advance p xs = position_at (capped (p.line + line_feeds xs))
    (capped (cond (line_feeds xs == 0) (p.column + length xs) (after_line_feed xs)))
